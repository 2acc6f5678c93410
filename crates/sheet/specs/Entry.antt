-- The names in a list of records. Assumes nothing.
use Rattle.std.specs.Prelude.{◌≡◌, ℕ, ◌<◌, List, [], length, Option, MatchOption, ◌≢◌, slice_index_or}

-- the name stands nowhere among the names
abbrev pub Unknown : List (List ℕ) → List ℕ → Type 0
Unknown names name = (j : ℕ) → j < length names → slice_index_or names j [] ≢ name

-- the name stands at place i among the names, and at none before it
abbrev pub Stands : List (List ℕ) → List ℕ → ℕ → Type 0
Stands names name i = (i < length names) × (slice_index_or names i [] ≡ name) × ((j : ℕ) → j < i → slice_index_or names j [] ≢ name)

-- r is the first place in the names where the name stands
abbrev pub First : List (List ℕ) → List ℕ → Option ℕ → Type 0
First names name r = MatchOption r (Unknown names name) (λ i. Stands names name i)
