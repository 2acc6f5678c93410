-- Choices, and walks of several. Assumes nothing.
use Rattle.std.specs.Prelude.{◌≡◌, ℕ, suc, ◌<◌, List, [], ◌∷◌, ◌++◌, ◌≢◌}
use Rattle.model.specs.declared.cell.Cell.{Cell}
use Rattle.model.specs.declared.path.Entry.{Entry}
use Rattle.model.specs.Plans.{Pins, unpinned}
use Rattle.model.specs.Paths.{left, taken}

-- no entry of the path has the cell
abbrev pub Absent : Cell → List Entry → Type 0
Absent c [] = Unit {0}
Absent c (e ∷ path) = (e.cell ≢ c) × Absent c path

-- the rules of a path at length T with m steps: its cells are in range and differ, and none is pinned
abbrev pub Fair : ℕ → ℕ → Pins → List Entry → Type 0
Fair T m pins [] = Unit {0}
Fair T m pins (e ∷ path) =
    (e.cell.time < T) × (e.cell.step < m) × (pins e.cell.time e.cell.step ≡ unpinned)
    × Absent e.cell path × Fair T m pins path

-- a choice adds an entry on the left-out side, or turns one to taken, dropping the entries behind it
pub data Choice : List Entry → List Entry → Type 0 where
  adds : (path : List Entry) (c : Cell) → Choice path (path ++ (left c ∷ []))
  turns : (before : List Entry) (c : Cell) (behind : List Entry)
      → Choice (before ++ (left c ∷ behind)) (before ++ (taken c ∷ []))

-- so many choices, one after another, over fair paths
pub data Walk (T m : ℕ) (pins : Pins) : ℕ → List Entry → List Entry → Type 0 where
  stay : (path : List Entry) → Walk T m pins 0 path path
  goes : (g : ℕ) (p q r : List Entry) → Fair T m pins p → Choice p q → Walk T m pins g q r → Walk T m pins (suc g) p r
