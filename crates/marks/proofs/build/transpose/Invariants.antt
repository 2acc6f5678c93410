use Rattle.std.proofs.Common.{◌≡◌, length}
use Rattle.marks.specs.Building.{Turned}
use Rattle.marks.proofs.build.transpose.Given as goal

abbrev pub invariant-loop-o : goal.invariant-loop-o
invariant-loop-o l = Turned l.rows l.o l.columns × (length l.columns ≡ 128)
