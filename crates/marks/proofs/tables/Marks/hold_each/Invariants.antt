use Rattle.std.proofs.Common.{◌≡◌, ℕ, ◌-◌, ◌<◌, ◌≤◌, true}
use Rattle.marks.specs.Tables.{number_in}
use Rattle.marks.specs.declared.mark.Mark.TheVariants.{Fact}
use Rattle.marks.specs.Grows.{Added}
use Rattle.marks.proofs.tables.Marks.hold_each.Given as goal

abbrev pub invariant-loop-l : goal.invariant-loop-l
invariant-loop-l l = Added l.initial.self (λ y. (i : ℕ) × (i < l.from) × (number_in l.set i ≡ true) × (y ≡ Fact l.t i)) l.self × (l.from ≤ 128)

abbrev pub decreases-loop-l : goal.decreases-loop-l
decreases-loop-l l = 128 - l.from
