-- The problem that a problem table holds. Assumes nothing.
use Rattle.std.specs.Prelude.{take}
use Rattle.model.specs.Problems.{Problem}
use Rattle.model.specs.declared.table.ProblemTable.{ProblemTable}

-- its first steps, as many as it counts, are the problem's
abbrev pub problem_of : ProblemTable → Problem
problem_of t = record { facts = t.facts; rows = take t.count t.steps; start = t.start; goal = t.goal }
