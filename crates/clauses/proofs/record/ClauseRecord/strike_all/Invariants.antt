use Rattle.std.proofs.Common.{◌≡◌, ◌-◌, ◌<◌, ◌≤◌, true, false}
use Rattle.sets.specs.Literals.{Literal, lit, code}
use Rattle.sets.specs.Sets.{lit_in}
use Rattle.clauses.specs.Waiting.{Struck, kept_in}
use Rattle.clauses.proofs.record.ClauseRecord.strike_all.Given as goal

abbrev pub invariant-loop-b : goal.invariant-loop-b
invariant-loop-b l =
    Struck l.initial.self l.self (λ k x. (code k ≡ l.a.number) × (lit_in l.gone x ≡ true))
    × ((x : Literal) → code x < l.from → lit_in l.gone x ≡ true → kept_in l.self (lit l.a.number) x ≡ false)
    × (l.from ≤ 128)

abbrev pub decreases-loop-b : goal.decreases-loop-b
decreases-loop-b l = 128 - l.from
