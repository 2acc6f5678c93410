use Rattle.std.proofs.Common.{sym, ◌∙◌}
use Rattle.search.proofs.Shown.{shown_contradiction}
use Rattle.search.proofs.Searches.{choosable_now, whole_now}
use Rattle.search.proofs.tables.Search.look.Goals as goal

pub returns-then-contradicts : goal.returns-then-contradicts
returns-then-contradicts c = shown_contradiction c.args.self.now.sound (sym c.contradicts.ensures ∙ c.if-contradicts.true)

pub returns-in-Some : goal.returns-in-Some
returns-in-Some c = let calm = sym c.contradicts.ensures ∙ c.if-contradicts.false in
    choosable_now c.args.self.now calm c.beyond-from.result c.in-Some.place (c.beyond-from.ensures calm) c.in-Some.ensures

pub returns-in-None : goal.returns-in-None
returns-in-None c = let calm = sym c.contradicts.ensures ∙ c.if-contradicts.false in
    whole_now c.args.self.now calm c.beyond-from.result (c.beyond-from.ensures calm) c.in-None.ensures
