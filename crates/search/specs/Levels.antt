-- The path that the levels of a search spell, and the marks of each level. Assumes nothing.
use Rattle.std.specs.Prelude.{◌≡◌, ℕ, zero, suc, ◌<◌, Bool, true, false, ◌&&◌, ◌||◌, List, map, get_or, take, nat_lt, slice_index_or}
use Rattle.model.specs.declared.cell.Cell.{Cell}
use Rattle.model.specs.declared.path.Entry.{Entry}
use Rattle.model.specs.declared.path.Side.TheVariants as side
use Rattle.model.specs.Problems.{Problem, steps}
use Rattle.model.specs.Plans.{Cells, Pins}
use Rattle.model.specs.Rankings.{cell_of}
use Rattle.marks.specs.declared.mark.Mark.TheVariants.{Taken, LeftOut}
use Rattle.marks.specs.declared.tables.Marks.{Marks}
use Rattle.marks.specs.declared.index.Index.{Index}
use Rattle.marks.specs.Grows.{on, Grows}
use Rattle.marks.specs.Rules.{Rest, seeds}
use Rattle.search.specs.declared.level.Level.{Level}
use Rattle.search.specs.Pinned.{with_path}

-- the cell at a place of the order
abbrev pub cell_at : List Cell → ℕ → Cell
cell_at order k = slice_index_or order k (cell_of 0 0)

-- what stands past the end of a table of levels
abbrev pub no_level : Level
no_level = record { place = 0; side = side.LeftOut; trail = 0 }

-- the entry of a level: the cell at its place, and its side
abbrev pub entry_of : List Cell → Level → Entry
entry_of order l = record { cell = cell_at order l.place; side = l.side }

-- the path of the first n levels, oldest first
abbrev pub path_at : List Cell → List Level → ℕ → List Entry
path_at order ls n = map (entry_of order) (take n ls)

-- the cells in range that the marks take
abbrev pub taken_by : Marks → Problem → ℕ → Cells
taken_by m p T = λ t o. (nat_lt t T && nat_lt o (steps p)) && on m (Taken t o)

-- the cell has a mark
abbrev pub told : Marks → Cell → Bool
told m c = on m (Taken c.time c.step) || on m (LeftOut c.time c.step)

-- every cell at a lower place has a mark
abbrev pub Lower : Marks → List Cell → ℕ → Type 0
Lower m order n = (k : ℕ) → k < n → told m (cell_at order k) ≡ true

-- before each choice there were marks at rest, without contradiction, that told every cell at a lower place; the later ones only added to them
abbrev pub Levels : Index → ℕ → Pins → List Cell → List Level → ℕ → Marks → Type 0
Levels ix T pins order ls zero m = Unit {0}
Levels ix T pins order ls (suc n) m =
    (a : Marks) × (a.conflict ≡ false) × (a.length ≡ T) × (a.len ≡ (get_or ls n no_level).trail)
    × Rest ix (seeds ix (with_path pins (path_at order ls n)) T) a × Lower a order (get_or ls n no_level).place × Grows a m
    × Levels ix T pins order ls n a
