use Rattle.std.proofs.Common.{◌≡◌, ℕ, ◌<◌, length, get_or}
use Rattle.sets.specs.Sets.{no_literals}
use Rattle.model.specs.Problems.{step}
use Rattle.model.specs.Held.{problem_of}
use Rattle.marks.proofs.build.fill.Given as goal

abbrev pub invariant-loop-o : goal.invariant-loop-o
invariant-loop-o g l = ((i : ℕ) → i < l.o → goal.F-post g l.part (step (problem_of l.problem) i) (get_or l.rows i no_literals)) × (length l.rows ≡ 256)
