use Rattle.model.specs.Held.{problem_of}
use Rattle.marks.specs.Building.{Closes}
use Rattle.marks.proofs.build.closed_steps.Given as goal

abbrev pub invariant-loop-o : goal.invariant-loop-o
invariant-loop-o l = Closes (problem_of l.problem) l.o l.closed
