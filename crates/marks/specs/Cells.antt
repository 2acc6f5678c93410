-- The sides of cells in tables. Assumes nothing.
use Rattle.std.specs.Prelude.{◌≡◌, ℕ, Bool, true, false, List, Option, MatchOption, slice_index_or}
use Rattle.sets.specs.Sets.{step_in, no_steps}
use Rattle.sets.specs.declared.steps.StepSet.{StepSet}
use Rattle.model.specs.declared.cell.Cell.{Cell}
use Rattle.model.specs.declared.path.Side.{Side}
use Rattle.model.specs.declared.path.Side.TheVariants.{LeftOut, Taken}
use Rattle.marks.specs.declared.tables.Marks.{Marks}
use Rattle.marks.specs.declared.cells.CellSides.{CellSides}
use Rattle.marks.specs.declared.cells.CellMarks.{CellMarks}

-- by time, the steps on a side
abbrev pub table_of : CellSides → Side → List StepSet
table_of k Taken = k.taken
table_of k LeftOut = k.left

-- whether step o is on a side at time t
abbrev pub side_in : CellSides → Side → ℕ → ℕ → Bool
side_in k s t o = step_in (slice_index_or (table_of k s) t no_steps) o

-- whether the cell is on a side
abbrev pub said : CellSides → Side → Cell → Bool
said k s c = side_in k s c.time c.step

-- the cell is on no side
pub record Unsaid (k : CellSides) (c : Cell) : Type 0 where
  pub not_taken : said k Taken c ≡ false
  pub not_left : said k LeftOut c ≡ false

abbrev pub same_side : Side → Side → Bool
same_side Taken Taken = true
same_side Taken LeftOut = false
same_side LeftOut Taken = false
same_side LeftOut LeftOut = true

-- they are the sides that the marks have of the cells, and whether the marks contradict
pub record CellMarksOf (m : Marks) (c : CellMarks) : Type 0 where
  pub same_sides : c.sides ≡ m.marked.cells
  pub same_conflict : c.conflict ≡ m.conflict

-- the sides that the marks have of the cells, or none where the marks contradict
abbrev pub CellsOf : Marks → Option CellSides → Type 0
CellsOf m r = MatchOption r (m.conflict ≡ true) (λ k. (m.conflict ≡ false) × (k ≡ m.marked.cells))
