use Rattle.std.proofs.Common.{ℕ, ◌<◌, sym, subst, arith, rules}
use Rattle.marks.proofs.Trail.{opp_is, opp_lit_byte}
use Rattle.marks.proofs.mark.opposite_literal.Goals as goal

pub overflow_cast-result : goal.overflow_cast-result
overflow_cast-result c =
    let small : c.flip.result < 256 = subst (λ (n : ℕ). n < 256) (sym (opp_is c.args.l c.flip.result c.flip.ensures.value)) (opp_lit_byte c.args.l (omega arith)) in
    search rules

pub returns : goal.returns
returns c = opp_is c.args.l c.flip.result c.flip.ensures.value
