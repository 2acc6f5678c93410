-- What a search keeps true of its tables. Assumes nothing.
use Rattle.std.specs.Prelude.{◌≡◌, ℕ, ◌*◌, ◌<◌, List, Option, slice_index_or}
use Rattle.model.specs.declared.cell.Cell.{Cell}
use Rattle.model.specs.Problems.{Problem, WellFormed, steps}
use Rattle.model.specs.Plans.{Pins}
use Rattle.model.specs.Clauses.{Clauses, Largest}
use Rattle.model.specs.Firsts.{Ordered, Such}
use Rattle.model.specs.Kept.{Kept}
use Rattle.marks.specs.declared.tables.Marks.{Marks}
use Rattle.marks.specs.declared.index.Index.{Index}
use Rattle.marks.specs.declared.cells.CellSides.{CellSides}
use Rattle.marks.specs.Rules.{Rest, seeds}
use Rattle.marks.specs.Meaning.{Means}
use Rattle.marks.specs.Cells.{CellsOf}
use Rattle.search.specs.declared.level.Level.{Level}
use Rattle.search.specs.Pinned.{with_path, InRange}
use Rattle.search.specs.Levels.{no_level, path_at, Levels}
use Rattle.search.specs.Ordering.{places_in}

-- the cells' marks are those of marks at rest that the pins alone force, and none where these contradict
abbrev pub Rooted : Index → ℕ → Pins → Option CellSides → Type 0
Rooted ix T pins root = (m : Marks) × (m.length ≡ T) × Rest ix (seeds ix pins T) m × CellsOf m root

pub record Sound (p : Problem) (V : Clauses) (ix : Index) (T : ℕ) (order : List Cell) (pins : Pins) (root : Option CellSides) (m : Marks)
    (ls : List Level) (n : ℕ) : Type 0 where
  -- the problem keeps the limits, its clauses are the largest kept set, and the index means both
  pub well : WellFormed p
  pub largest : Largest p V
  pub means : Means ix p V
  -- the order has every cell once, and no cell beyond it is pinned
  pub ordered : Ordered T (steps p) (places_in order)
  pub range : InRange pins T (steps p)
  pub rooted : Rooted ix T pins root
  -- the marks are at rest at what the pins and the path force, and were so before each choice
  pub long : m.length ≡ T
  pub rest : Rest ix (seeds ix (with_path pins (path_at order ls n)) T) m
  pub levels : Levels ix T pins order ls n m
  pub placed : (k : ℕ) → k < n → (slice_index_or ls k no_level).place < T * steps p
  -- no plan lies left of the path, which keeps its rules
  pub kept : Kept (Such p T pins) T (steps p) pins (places_in order) (path_at order ls n)
