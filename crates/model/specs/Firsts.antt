-- Which plan comes first in an order of the cells, and what a path settles. Assumes nothing.
use Rattle.std.specs.Prelude.{◌≡◌, ℕ, ◌*◌, ◌<◌, true, false, ◌⊎◌, List, ◌∷◌, ◌++◌}
use Rattle.model.specs.declared.cell.Cell.{Cell}
use Rattle.model.specs.declared.path.Entry.{Entry}
use Rattle.model.specs.Problems.{Problem}
use Rattle.model.specs.Plans.{Cells, Pins, IsPlan, Keeps}
use Rattle.model.specs.Paths.{at, Agrees, LeftOf}
use Rattle.model.specs.Rankings.{Order}

-- an order of the cells at one length and step count: the cell at each place, and the place of each cell
pub record Places : Type 0 where
  pub cell : ℕ → Cell
  pub place : Cell → ℕ

-- the places of an order at one length and step count
abbrev pub places : Order → ℕ → ℕ → Places
places o T m = record { cell = o.cell T m; place = o.place T m }

-- place and cell undo each other: every cell has one place below T * m, and each such place one cell
pub record Ordered (T m : ℕ) (o : Places) : Type 0 where
  pub place_below : (c : Cell) → c.time < T → c.step < m → o.place c < T * m
  pub cell_below : (k : ℕ) → k < T * m → ((o.cell k).time < T) × ((o.cell k).step < m)
  pub cell_of_place : (c : Cell) → c.time < T → c.step < m → o.cell (o.place c) ≡ c
  pub place_of_cell : (k : ℕ) → k < T * m → o.place (o.cell k) ≡ k

-- a plan of the problem and length that keeps the pins
pub record Such (p : Problem) (T : ℕ) (pins : Pins) (c : Cells) : Type 0 where
  pub plan : IsPlan p T c
  pub keeps : Keeps pins c

-- the first of two plans comes before the second: at the lowest place where they differ, it leaves the cell out
abbrev pub Before : ℕ → (ℕ → Cell) → Cells → Cells → Type 0
Before C cell p q =
    (k : ℕ) × (k < C) × (at p (cell k) ≡ false) × (at q (cell k) ≡ true)
    × ((j : ℕ) → j < k → at p (cell j) ≡ at q (cell j))

-- equal on all cells
abbrev pub Same : ℕ → ℕ → Cells → Cells → Type 0
Same T m p q = (t o : ℕ) → t < T → o < m → q t o ≡ p t o

-- the first of the plans that are such: one of them, that comes before every other one
abbrev pub First : (Cells → Type 0) → ℕ → ℕ → (ℕ → Cell) → Cells → Type 0
First S T m cell p = S p × ((q : Cells) → S q → Same T m p q ⊎ Before (T * m) cell p q)

-- no plan is such
abbrev pub None : (Cells → Type 0) → Type 0
None S = (p : Cells) → S p → ⊥

-- no such plan lies left of the path
abbrev pub NoneLeft : (Cells → Type 0) → List Entry → Type 0
NoneLeft S path = (p : Cells) → S p → LeftOf p path → ⊥

-- no such plan agrees with the path
abbrev pub NoneAgrees : (Cells → Type 0) → List Entry → Type 0
NoneAgrees S path = (p : Cells) → S p → Agrees p path → ⊥

-- the path decides the cell: all such plans that agree with the path do the same with it
abbrev pub Decided : (Cells → Type 0) → List Entry → Cell → Type 0
Decided S path c = (p q : Cells) → S p → S q → Agrees p path → Agrees q path → at p c ≡ at q c

-- each entry's cell was the lowest-placed that the entries before it left undecided
abbrev pub Lowest : (Cells → Type 0) → ℕ → ℕ → Places → List Entry → Type 0
Lowest S T m o path =
    (before : List Entry) (e : Entry) (behind : List Entry) → path ≡ before ++ (e ∷ behind)
    → (d : Cell) → d.time < T → d.step < m → o.place d < o.place e.cell → Decided S before d
