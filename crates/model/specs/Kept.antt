-- What a search keeps of its path, and what it may do next. Assumes nothing.
use Rattle.std.specs.Prelude.{◌≡◌, ℕ, ◌<◌, List}
use Rattle.model.specs.declared.cell.Cell.{Cell}
use Rattle.model.specs.declared.path.Entry.{Entry}
use Rattle.model.specs.Plans.{Cells, Pins, unpinned}
use Rattle.model.specs.Paths.{Agrees}
use Rattle.model.specs.Choices.{Absent, Fair}
use Rattle.model.specs.Firsts.{Places, Same, NoneLeft, Decided, Lowest}

-- no plan that is looked for lies left of the path; the path keeps its rules; each entry's cell was the lowest-placed undecided one
pub record Kept (S : Cells → Type 0) (T m : ℕ) (pins : Pins) (o : Places) (path : List Entry) : Type 0 where
  pub none_left : NoneLeft S path
  pub fair : Fair T m pins path
  pub lowest : Lowest S T m o path

-- the cell may be chosen next: it is in range, unpinned and not on the path, and the path decides every lower-placed cell
pub record Next (S : Cells → Type 0) (T m : ℕ) (pins : Pins) (o : Places) (path : List Entry) (c : Cell) : Type 0 where
  pub in_time : c.time < T
  pub in_count : c.step < m
  pub free : pins c.time c.step ≡ unpinned
  pub absent : Absent c path
  pub lower : (d : Cell) → d.time < T → d.step < m → o.place d < o.place c → Decided S path d

-- the plan is looked for, agrees with the path, and is the only such one, up to cells out of range
pub record Only (S : Cells → Type 0) (T m : ℕ) (path : List Entry) (plan : Cells) : Type 0 where
  pub such : S plan
  pub agrees : Agrees plan path
  pub alone : (q : Cells) → S q → Agrees q path → Same T m plan q
