-- Places in the two rankings, and the places that a path has passed. Assumes nothing.
use Rattle.std.specs.Prelude.{◌≡◌, [], ◌∷◌}
use Rattle.model.specs.declared.cell.Cell.{Cell}
use Rattle.model.specs.Paths.{left, taken, passed}
use Rattle.model.specs.Rankings.{cell_of, cell_answer, place_answer}
use Rattle.sources.specs.Built.{forward, by_step}

-- at length 6 with 9 steps
pub record Places : Type 0 where
  pub forward_cell : cell_answer forward 6 9 53 ≡ cell_of 5 8
  pub forward_place : place_answer forward 6 9 (cell_of 5 8) ≡ 53
  pub by_step_cell : cell_answer by_step 6 9 6 ≡ cell_of 0 1
  pub by_step_place : place_answer by_step 6 9 (cell_of 0 1) ≡ 6

-- with two cells in all, whichever they are
pub record Passed (first second : Cell) : Type 0 where
  pub left_out : passed 2 (left first ∷ []) ≡ 1
  pub left_out_then_taken : passed 2 (left first ∷ taken second ∷ []) ≡ 3
  pub taken_alone : passed 2 (taken first ∷ []) ≡ 4
  pub taken_twice : passed 2 (taken first ∷ taken second ∷ []) ≡ 6
