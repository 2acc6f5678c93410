use Rattle.std.proofs.Common.{◌≡◌}
use Rattle.model.specs.Held.{problem_of}
use Rattle.clauses.specs.Waiting.{Ready, size}
use Rattle.clauses.proofs.record.ClauseRecord.settle.Given as goal

abbrev pub invariant-loop : goal.invariant-loop
invariant-loop l = (l.self.facts ≡ l.initial.self.facts) × (Ready (problem_of l.problem) l.initial.self → Ready (problem_of l.problem) l.self)

abbrev pub decreases-loop : goal.decreases-loop
decreases-loop l = size l.self
