use Rattle.std.proofs.Common.{◌≡◌, ℕ, ◌-◌, ◌<◌, ◌≤◌, true}
use Rattle.marks.specs.Tables.{number_in}
use Rattle.marks.specs.declared.mark.Mark.{Mark}
use Rattle.marks.specs.Grows.{Has}
use Rattle.marks.specs.Rules.{On, Worked, Follows}
use Rattle.marks.proofs.tables.Marks.check_all.Given as goal

abbrev pub invariant-loop-l : goal.invariant-loop-l
invariant-loop-l l = Worked l.ix l.initial.self l.self
    × ((i : ℕ) → i < l.from → number_in l.literals i ≡ true → (y : Mark) → Follows l.ix (On l.initial.self) l.t i y → Has l.self y)
    × (l.from ≤ 128)

abbrev pub decreases-loop-l : goal.decreases-loop-l
decreases-loop-l l = 128 - l.from
