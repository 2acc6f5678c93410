use Rattle.std.proofs.Common.{◌≡◌}
use Rattle.model.specs.Problems.{steps}
use Rattle.model.specs.Held.{problem_of}
use Rattle.model.specs.Choices.{Walk}
use Rattle.search.specs.Looks.{asked, path_of}
use Rattle.search.proofs.tables.Search.run.Given as goal

-- so many choices were made
abbrev pub invariant-loop-done : goal.invariant-loop-done
invariant-loop-done l =
    (asked l.self ≡ asked l.initial.self)
    × Walk l.initial.self.length (steps (problem_of l.initial.self.problem)) (asked l.initial.self).pins l.done (path_of l.initial.self) (path_of l.self)
