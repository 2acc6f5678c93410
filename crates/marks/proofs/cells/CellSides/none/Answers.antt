use Rattle.marks.proofs.Empties.{no_member}
use Rattle.marks.proofs.cells.CellSides.none.Goals as goal

pub returns : goal.returns
returns c cell = record {
  not_taken = no_member c.empty.result c.empty.ensures 32 cell.time cell.step;
  not_left = no_member c.empty-2.result c.empty-2.ensures 32 cell.time cell.step;
}
