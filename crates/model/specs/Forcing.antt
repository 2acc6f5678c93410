-- What is answered of a cell when one asks what the pins force. Assumes nothing.
use Rattle.std.specs.Prelude.{◌≡◌, ℕ, ◌≤◌}
use Rattle.model.specs.Problems.{Problem}
use Rattle.model.specs.Plans.{Pins}
use Rattle.model.specs.Clauses.{Clauses, Largest}
use Rattle.model.specs.Marks.{Mark, taken, left_out, Forced, Contradiction}

-- the number n tells of the cell what the set of marks says: 3 that it contradicts; and where it does not, 1 that the cell is taken,
-- 2 that it is left out, 0 that it says neither
pub record CellTold (M : Mark → Type 0) (t o n : ℕ) : Type 0 where
  pub small : n ≤ 3
  pub undecided : n ≡ 0 → (Contradiction M → ⊥) × (M (taken t o) → ⊥) × (M (left_out t o) → ⊥)
  pub is_taken : n ≡ 1 → (Contradiction M → ⊥) × M (taken t o)
  pub is_left_out : n ≡ 2 → (Contradiction M → ⊥) × M (left_out t o)
  pub contradicts : n ≡ 3 → Contradiction M

-- the same of the least closed set, with the clauses of the largest kept set
abbrev pub ForcedSays : Problem → ℕ → Pins → ℕ → ℕ → ℕ → Type 0
ForcedSays p T pins t o n = ∥ ((V : Clauses) × Largest p V × CellTold (Forced p T pins V) t o n) ∥₁
