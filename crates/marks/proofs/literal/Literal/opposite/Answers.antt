use Rattle.std.proofs.Common.{ℕ, ◌<◌, sym, subst}
use Rattle.marks.proofs.Trail.{opp_lit_small}
use Rattle.marks.proofs.literal.Literal.opposite.Goals as goal

pub invariant_of-result : goal.invariant_of-result
invariant_of-result c = record { small = subst (λ (k : ℕ). k < 128) (sym c.opposite_literal.ensures) (opp_lit_small c.args.self.number c.args.self.small) }
