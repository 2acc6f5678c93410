use Rattle.std.proofs.Common.{◌-◌, ◌≤◌}
use Rattle.marks.specs.Building.{Gathered}
use Rattle.marks.proofs.build.gather.Given as goal

abbrev pub invariant-loop-l : goal.invariant-loop-l
invariant-loop-l l = Gathered l.columns l.literals l.from l.all × (l.from ≤ 128)

abbrev pub decreases-loop-l : goal.decreases-loop-l
decreases-loop-l l = 128 - l.from
