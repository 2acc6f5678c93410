-- Plans told by the steps of each time, and pins that ask nothing. Assumes nothing.
use Rattle.std.specs.Prelude.{ℕ, Bool, false, ◌||◌, List, [], ◌∷◌, ◌++◌, ◌==◌, slice_index_or}
use Rattle.model.specs.Plans.{Cells, Pins, unpinned}

-- whether the step is in the list
abbrev pub listed : ℕ → List ℕ → Bool
listed o [] = false
listed o (x ∷ xs) = o == x || listed o xs

-- the cells of a list of times, each with the list of its steps
abbrev pub taking : List (List ℕ) → Cells
taking times = λ t o. listed o (slice_index_or times t [])

-- no cell is pinned
abbrev pub no_pins : Pins
no_pins = λ t o. unpinned

-- the bytes of lines, each with its line feed
abbrev pub lines : List (List ℕ) → List ℕ
lines [] = []
lines (l ∷ ls) = l ++ 10 ∷ lines ls
