use Rattle.std.proofs.Common.{◌≡◌, ℕ, false, ◌⊎◌}
use Rattle.clauses.specs.Waiting.{Held, Caught}
use Rattle.clauses.proofs.waiting.Waiting.gather.Given as goal

abbrev pub invariant-loop-a : goal.invariant-loop-a
invariant-loop-a l =
    (l.touched.all ≡ false → l.initial.self.all ≡ false)
    × ((x y : ℕ) → Held l.initial.self x y → l.touched.all ≡ false → Held l.self x y ⊎ Caught l.touched.needs x y)

abbrev pub decreases-loop-a : goal.decreases-loop-a
decreases-loop-a l = l.self.len
