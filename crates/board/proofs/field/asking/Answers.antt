use Rattle.std.proofs.Common.{sym}
use Rattle.board.proofs.Cutting.{uncut, parts}
use Rattle.board.proofs.field.asking.Goals as goal

pub returns-in_err-length : goal.returns-in_err-length
returns-in_err-length c = rw c.from_residual.ensures (λ n x p. uncut _ _ _ c.in_err-length.ensures p.whole)

pub returns-in_err-number : goal.returns-in_err-number
returns-in_err-number c = rw c.from_residual-in_err-number.ensures (λ n x p. c.in_err-number.ensures n (parts _ _ _ _ _ _ c.in_ok-length.ensures.0 c.in_ok-length.ensures.1 p.whole p.is_length).0)

pub returns-in_err-ranking : goal.returns-in_err-ranking
returns-in_err-ranking c = rw c.from_residual-in_err-ranking.ensures (λ n x p. c.in_err-ranking.ensures x (sym (parts _ _ _ _ _ _ c.in_ok-length.ensures.0 c.in_ok-length.ensures.1 p.whole p.is_length).1))
