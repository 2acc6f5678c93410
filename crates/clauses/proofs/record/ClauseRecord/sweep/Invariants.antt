use Rattle.std.proofs.Common.{ℕ, ◌<◌}
use Rattle.model.specs.Held.{problem_of}
use Rattle.clauses.specs.Waiting.{Moved, Visited, Due}
use Rattle.clauses.proofs.record.ClauseRecord.sweep.Given as goal

abbrev pub invariant-loop-o : goal.invariant-loop-o
invariant-loop-o l = Moved (problem_of l.problem) l.initial.self l.self
    × ((o : ℕ) → o < l.o → Visited (problem_of l.problem) l.initial.self l.self o (Due (problem_of l.problem) o l.touched))
