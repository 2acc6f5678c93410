use Rattle.std.proofs.Common.{◌≡◌, ◌-◌, ◌<◌, ◌≤◌, true, false}
use Rattle.sets.specs.Literals.{Literal, code}
use Rattle.sets.specs.Sets.{lit_in}
use Rattle.clauses.specs.Waiting.{Struck, kept_in}
use Rattle.clauses.proofs.record.ClauseRecord.strike_rows.Given as goal

abbrev pub invariant-loop-a : goal.invariant-loop-a
invariant-loop-a l =
    Struck l.initial.self l.self (λ k x. (lit_in l.undone k ≡ true) × (lit_in l.safe x ≡ false))
    × ((k : Literal) → code k < l.from → lit_in l.undone k ≡ true → (x : Literal) → lit_in l.safe x ≡ false → kept_in l.self k x ≡ false)
    × (l.from ≤ 128)

abbrev pub decreases-loop-a : goal.decreases-loop-a
decreases-loop-a l = 128 - l.from
