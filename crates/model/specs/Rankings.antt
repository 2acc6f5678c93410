-- An order of the cells for each length and step count, and what makes it lawful.
use Rattle.std.specs.Prelude.{◌≡◌, ℕ, ◌*◌, ◌<◌, ◌≤◌, Bool, cond, ◌&&◌, List, length, get_or, nat_le, nat_lt, slice_index_or}
use Rattle.model.specs.declared.cell.Cell.{Cell}

-- an order of the cells: by length and step count, the cell at each place, and the place of each cell
pub record Order : Type 0 where
  pub cell : ℕ → ℕ → ℕ → Cell
  pub place : ℕ → ℕ → Cell → ℕ

-- the lengths and counts that are ranked: up to 32 times and 256 steps
pub record Ranked (times steps : ℕ) : Type 0 where
  pub short : times ≤ 32
  pub few : steps ≤ 256

-- the law of a ranking: for every length and count, the places below times * steps and the cells in range undo each other
pub record Undo (o : Order) : Type 0 where
  pub time_within : (times steps p : ℕ) → Ranked times steps → p < times * steps → (o.cell times steps p).time < times
  pub step_within : (times steps p : ℕ) → Ranked times steps → p < times * steps → (o.cell times steps p).step < steps
  pub place_within : (times steps : ℕ) (c : Cell) → Ranked times steps → c.time < times → c.step < steps → o.place times steps c < times * steps
  pub back : (times steps p : ℕ) → Ranked times steps → p < times * steps → o.place times steps (o.cell times steps p) ≡ p
  pub forth : (times steps : ℕ) (c : Cell) → Ranked times steps → c.time < times → c.step < steps → o.cell times steps (o.place times steps c) ≡ c

-- the cell of a time and a step
abbrev pub cell_of : ℕ → ℕ → Cell
cell_of t o = record { time = t; step = o }

-- whether a length and count are ranked
abbrev pub ranked : ℕ → ℕ → Bool
ranked times steps = nat_le times 32 && nat_le steps 256

-- what a ranking answers for a place: its cell, and the cell of zeros beyond the limits
abbrev pub cell_answer : Order → ℕ → ℕ → ℕ → Cell
cell_answer o times steps p = cond (ranked times steps && nat_lt p (times * steps)) (o.cell times steps p) (cell_of 0 0)

-- what a ranking answers for a cell: its place, and zero beyond the limits
abbrev pub place_answer : Order → ℕ → ℕ → Cell → ℕ
place_answer o times steps c = cond (ranked times steps && (nat_lt c.time times && nat_lt c.step steps)) (o.place times steps c) 0

-- the table now begins with the order, and stands as before behind it
pub record Copied (o : Order) (times steps : ℕ) (before after : List Cell) : Type 0 where
  pub same_length : length after ≡ length before
  pub holds : (p : ℕ) → p < times * steps → slice_index_or after p (cell_of 0 0) ≡ o.cell times steps p
  pub beyond : (p : ℕ) → times * steps ≤ p → slice_index_or after p (cell_of 0 0) ≡ slice_index_or before p (cell_of 0 0)

-- the first n places are copied
pub record Sofar (o : Order) (times steps n : ℕ) (before after : List Cell) : Type 0 where
  pub holds : (p : ℕ) → p < n → slice_index_or after p (cell_of 0 0) ≡ o.cell times steps p
  pub beyond : (p : ℕ) → n ≤ p → slice_index_or after p (cell_of 0 0) ≡ slice_index_or before p (cell_of 0 0)

-- the first places of the table hold every cell, each once
pub record EachOnce (times steps : ℕ) (table : List Cell) : Type 0 where
  pub within : (p : ℕ) → p < times * steps → ((get_or table p (cell_of 0 0)).time < times) × ((get_or table p (cell_of 0 0)).step < steps)
  pub distinct : (p q : ℕ) → p < times * steps → q < times * steps → slice_index_or table p (cell_of 0 0) ≡ slice_index_or table q (cell_of 0 0) → p ≡ q
  pub complete : (c : Cell) → c.time < times → c.step < steps → (p : ℕ) × (p < times * steps) × (slice_index_or table p (cell_of 0 0) ≡ c)
