-- What a search is after each call that begins it anew. Assumes nothing.
use Rattle.std.specs.Prelude.{◌≡◌, ℕ, ◌*◌, ◌<◌, []}
use Rattle.model.specs.declared.cell.Cell.{Cell}
use Rattle.model.specs.Problems.{Problem, steps}
use Rattle.model.specs.Plans.{Pin, unpinned}
use Rattle.model.specs.Rankings.{Order}
use Rattle.model.specs.Held.{problem_of}
use Rattle.marks.specs.Pinning.{pins_of, with_pin}
use Rattle.search.specs.declared.tables.Search.{Search}
use Rattle.search.specs.Levels.{cell_at}
use Rattle.search.specs.Looks.{path_of}

-- it is of this problem, at length 0, with no pins and an empty path
pub record Opened (p : Problem) (s : Search) : Type 0 where
  pub problem : problem_of s.problem ≡ p
  pub length : s.length ≡ 0
  pub free : (t o : ℕ) → pins_of s.pins t o ≡ unpinned
  pub fresh : path_of s ≡ []

-- it is of the problem as before, at this length, with the cells in this order, with no pins and an empty path
pub record Asked (s : Search) (T : ℕ) (o : Order) (s' : Search) : Type 0 where
  pub problem : s'.problem ≡ s.problem
  pub length : s'.length ≡ T
  pub ordered : (k : ℕ) → k < T * steps (problem_of s.problem) → cell_at s'.order k ≡ o.cell T (steps (problem_of s.problem)) k
  pub free : (t o : ℕ) → pins_of s'.pins t o ≡ unpinned
  pub fresh : path_of s' ≡ []

-- it is as before but for the pin of one cell, with an empty path
pub record Repinned (s : Search) (c : Cell) (pin : Pin) (s' : Search) : Type 0 where
  pub problem : s'.problem ≡ s.problem
  pub length : s'.length ≡ s.length
  pub order : s'.order ≡ s.order
  pub pins : (t o : ℕ) → pins_of s'.pins t o ≡ with_pin (pins_of s.pins) c pin t o
  pub fresh : path_of s' ≡ []
