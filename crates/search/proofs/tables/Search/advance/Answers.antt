use Rattle.std.proofs.Common.{refl}
use Rattle.search.proofs.Shown.{shown_first}
use Rattle.search.proofs.Turning.{add_fits, add_choice}
use Rattle.search.proofs.tables.Search.advance.Goals as goal

pub choose-requires : goal.choose-requires
choose-requires c = add_fits c.args.self.now c.in-Undecided.place c.in-Undecided.ensures

pub returns-in-Whole : goal.returns-in-Whole
returns-in-Whole c = record { same = refl; advanced = shown_first c.args.self.now.sound _ c.in-Whole.ensures }

pub returns-in-Undecided : goal.returns-in-Undecided
returns-in-Undecided c = record {
  same = c.choose.ensures.same;
  advanced = add_choice c.args.self.now c.choose.new.self c.in-Undecided.place c.choose.ensures.more;
}
