use Rattle.std.proofs.Common.{subst}
use Rattle.board.specs.Fields.{Number}
use Rattle.board.proofs.Cutting.{uncut, parts}
use Rattle.board.proofs.field.numbers.Goals as goal

pub returns-in_err-first : goal.returns-in_err-first
returns-in_err-first c = rw c.from_residual.ensures (λ a b p. uncut _ _ _ c.in_err-first.ensures p.whole)

pub returns-in_err-number : goal.returns-in_err-number
returns-in_err-number c = rw c.from_residual-in_err-number.ensures (λ a b p. c.in_err-number.ensures a (parts _ _ _ _ _ _ c.in_ok-first.ensures.0 c.in_ok-first.ensures.1 p.whole p.is_first).0)

pub returns-in_err-number-2 : goal.returns-in_err-number-2
returns-in_err-number-2 c = rw c.from_residual-in_err-number-2.ensures (λ a b p. c.in_err-number-2.ensures b (subst (λ s. Number s b) (parts _ _ _ _ _ _ c.in_ok-first.ensures.0 c.in_ok-first.ensures.1 p.whole p.is_first).1 p.is_second))
