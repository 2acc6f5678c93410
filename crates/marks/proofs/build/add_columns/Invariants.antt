use Rattle.std.proofs.Common.{◌-◌, ◌≤◌}
use Rattle.marks.specs.Building.{Columned}
use Rattle.marks.proofs.build.add_columns.Given as goal

abbrev pub invariant-loop-l : goal.invariant-loop-l
invariant-loop-l l = Columned l.initial.columns l.row l.o l.from l.columns × (l.from ≤ 128)

abbrev pub decreases-loop-l : goal.decreases-loop-l
decreases-loop-l l = 128 - l.from
