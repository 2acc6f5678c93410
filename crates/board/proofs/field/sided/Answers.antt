use Rattle.std.proofs.Common.{sym}
use Rattle.board.proofs.Cutting.{uncut, parts}
use Rattle.board.proofs.field.sided.Goals as goal

pub returns-in_err-step : goal.returns-in_err-step
returns-in_err-step c = rw c.from_residual.ensures (λ o k p. uncut _ _ _ c.in_err-step.ensures p.whole)

pub returns-in_err-number : goal.returns-in_err-number
returns-in_err-number c = rw c.from_residual-in_err-number.ensures (λ o k p. c.in_err-number.ensures o (parts _ _ _ _ _ _ c.in_ok-step.ensures.0 c.in_ok-step.ensures.1 p.whole p.is_step).0)

pub returns-in_err-side : goal.returns-in_err-side
returns-in_err-side c = rw c.from_residual-in_err-side.ensures (λ o k p. c.in_err-side.ensures k (sym (parts _ _ _ _ _ _ c.in_ok-step.ensures.0 c.in_ok-step.ensures.1 p.whole p.is_step).1))
