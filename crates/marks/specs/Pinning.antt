-- What the tables of pins say of each cell. Assumes nothing.
use Rattle.std.specs.Prelude.{◌≡◌, ℕ, ◌<◌, Bool, true, false, cond, ◌&&◌, ◌⊎◌, ◌==◌, nat_lt, slice_index_or}
use Rattle.sets.specs.Sets.{step_in, no_steps}
use Rattle.model.specs.declared.cell.Cell.{Cell}
use Rattle.model.specs.declared.path.Side.{Side}
use Rattle.model.specs.declared.path.Side.TheVariants.{LeftOut, Taken}
use Rattle.model.specs.Plans.{Pin, Pins as PinsOf, unpinned, take, leave}
use Rattle.marks.specs.declared.pins.Pins.{Pins}

-- taken where the table of the taken has the cell, left out where the other has it; no cell is in both
abbrev pub pins_of : Pins → PinsOf
pins_of pins = λ t o. cond (step_in (slice_index_or pins.cells.taken t no_steps) o) take (cond (step_in (slice_index_or pins.cells.left t no_steps) o) leave unpinned)

abbrev pub pin_of : Side → Pin
pin_of Taken = take
pin_of LeftOut = leave

-- whether two cells are the same
abbrev pub same_cell : Cell → ℕ → ℕ → Bool
same_cell c t o = c.time == t && c.step == o

-- one cell pinned as said, the others as before; a cell of a time from 32 on cannot be pinned
abbrev pub with_pin : PinsOf → Cell → Pin → PinsOf
with_pin places c pin = λ t o. cond (nat_lt c.time 32 && same_cell c t o) pin (places t o)

abbrev pub says_take : Pin → Bool
says_take unpinned = false
says_take take = true
says_take leave = false

abbrev pub says_leave : Pin → Bool
says_leave unpinned = false
says_leave take = false
says_leave leave = true

-- only steps below a count are pinned
abbrev pub Within : PinsOf → ℕ → Type 0
Within places n = (t o : ℕ) → (places t o ≡ take) ⊎ (places t o ≡ leave) → o < n
