use Rattle.std.proofs.Common.{◌≡◌, take}
use Rattle.model.proofs.holds.copy_steps.Given as goal

-- so many rows are copied
abbrev pub invariant-loop-number : goal.invariant-loop-number
invariant-loop-number g l = take l.number l.step-items ≡ take l.number (g.S.ProblemSource.meaning l.source).rows
