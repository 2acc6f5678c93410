use Rattle.std.proofs.Common.{ℕ, ◌<◌, sym, subst}
use Rattle.marks.proofs.Trail.{opp_lit_small}
use Rattle.marks.proofs.build.gather.Goals as goal

pub bounds-columns-opposite_literal : goal.bounds-columns-opposite_literal
bounds-columns-opposite_literal c = subst (λ (k : ℕ). k < 128) (sym c.opposite_literal.ensures) (opp_lit_small c.in-Some.l c.in-Some.ensures.1)
