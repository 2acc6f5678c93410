use Rattle.std.proofs.Common.{◌≡◌, ℕ, ◌-◌, ◌<◌, ◌≤◌, true}
use Rattle.sets.specs.Sets.{step_in}
use Rattle.marks.specs.declared.mark.Mark.TheVariants.{LeftOut}
use Rattle.marks.specs.Grows.{Added}
use Rattle.marks.proofs.tables.Marks.leave_each.Given as goal

abbrev pub invariant-loop-o : goal.invariant-loop-o
invariant-loop-o l = Added l.initial.self (λ y. (i : ℕ) × (i < l.from) × (step_in l.set i ≡ true) × (y ≡ LeftOut l.t i)) l.self × (l.from ≤ 256)

abbrev pub decreases-loop-o : goal.decreases-loop-o
decreases-loop-o l = 256 - l.from
