use Rattle.std.proofs.Common.{subst}
use Rattle.board.specs.Fields.{Sided}
use Rattle.board.proofs.Cutting.{uncut, parts}
use Rattle.board.proofs.field.pinning.Goals as goal

pub returns-in_err-first : goal.returns-in_err-first
returns-in_err-first c = rw c.from_residual.ensures (λ t o k p. uncut _ _ _ c.in_err-first.ensures p.whole)

pub returns-in_err-time : goal.returns-in_err-time
returns-in_err-time c = rw c.from_residual-in_err-time.ensures (λ t o k p. c.in_err-time.ensures t (parts _ _ _ _ _ _ c.in_ok-first.ensures.0 c.in_ok-first.ensures.1 p.whole p.is_time).0)

pub returns-in_err-step : goal.returns-in_err-step
returns-in_err-step c = rw c.from_residual-in_err-step.ensures (λ t o k p. c.in_err-step.ensures o k (subst (λ s. Sided s o k) (parts _ _ _ _ _ _ c.in_ok-first.ensures.0 c.in_ok-first.ensures.1 p.whole p.is_time).1 p.is_sided))
