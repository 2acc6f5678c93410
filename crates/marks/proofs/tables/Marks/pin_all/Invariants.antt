use Rattle.std.proofs.Common.{ℕ, ◌<◌}
use Rattle.marks.specs.Grows.{Added}
use Rattle.marks.specs.Rules.{Pinned}
use Rattle.marks.proofs.tables.Marks.pin_all.Given as goal

abbrev pub invariant-loop-t : goal.invariant-loop-t
invariant-loop-t l = Added l.initial.self (λ y. (i : ℕ) × (i < l.t) × Pinned l.ix l.pins i y) l.self
