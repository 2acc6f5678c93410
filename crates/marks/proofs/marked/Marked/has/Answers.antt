use Rattle.std.proofs.Common.{sym, ap, ◌∙◌}
use Rattle.marks.specs.Tables.{marked_in}
use Rattle.marks.proofs.Empties.{no_number_past}
use Rattle.marks.proofs.marked.Marked.has.Goals as goal

pub returns-in-None : goal.returns-in-None
returns-in-None c = sym (ap (marked_in c.args.self.now) c.in-Fact.is ∙ no_number_past c.args.self.now.facts c.in-Fact.t c.in-Fact.l c.in-None.ensures.lookup.0)
