-- The choices of a path, read as further pins. Assumes nothing.
use Rattle.std.specs.Prelude.{◌≡◌, ℕ, ◌<◌, Bool, cond, ◌&&◌, ◌⊎◌, List, [], ◌∷◌, ◌==◌}
use Rattle.model.specs.declared.cell.Cell.{Cell}
use Rattle.model.specs.declared.path.Side.{Side}
use Rattle.model.specs.declared.path.Side.TheVariants.{LeftOut, Taken}
use Rattle.model.specs.declared.path.Entry.{Entry}
use Rattle.model.specs.Plans.{Pin, Pins, take, leave}

-- the pin that says what an entry's side says
abbrev pub pin_of : Side → Pin
pin_of LeftOut = leave
pin_of Taken = take

-- the cell is that of the time and the step
abbrev pub is_cell : Cell → ℕ → ℕ → Bool
is_cell c t o = c.time == t && c.step == o

-- the pins, and each entry of the path as a pin of its cell
abbrev pub with_path : Pins → List Entry → Pins
with_path pins [] t o = pins t o
with_path pins (e ∷ path) t o = cond (is_cell e.cell t o) (pin_of e.side) (with_path pins path t o)

-- only cells in range are pinned
abbrev pub InRange : Pins → ℕ → ℕ → Type 0
InRange pins T m = (t o : ℕ) → (pins t o ≡ take) ⊎ (pins t o ≡ leave) → (t < T) × (o < m)
