use Rattle.std.proofs.Common.{◌≡◌, ◌-◌, ◌<◌, ◌≤◌, true}
use Rattle.sets.specs.Literals.{Literal, code}
use Rattle.sets.specs.Sets.{lit_in}
use Rattle.model.specs.Clauses.{Clause}
use Rattle.clauses.specs.Pairs.{rel, Linked}
use Rattle.clauses.proofs.pairs.Pairs.linked.Given as goal

abbrev pub invariant-loop-a : goal.invariant-loop-a
invariant-loop-a l =
    ((x : Literal) → lit_in l.all x ≡ true → Linked (rel l.self) l.set x)
    × ((k : Literal) → code k < l.from → lit_in l.set k ≡ true → (x : Literal) → Clause (rel l.self) k x → lit_in l.all x ≡ true)
    × (l.from ≤ 128)

abbrev pub decreases-loop-a : goal.decreases-loop-a
decreases-loop-a l = 128 - l.from
