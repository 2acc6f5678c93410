use Rattle.std.proofs.Common.{◌≡◌, ◌-◌, false}
use Rattle.marks.proofs.tables.Marks.take_back.Given as goal

abbrev pub invariant-loop-self : goal.invariant-loop-self
invariant-loop-self l = (l.self.length ≡ l.initial.self.length) × (l.self.trail ≡ l.initial.self.trail) × (l.self.head ≡ l.n) × (l.self.conflict ≡ false)

abbrev pub decreases-loop-self : goal.decreases-loop-self
decreases-loop-self l = l.self.len - l.n
