-- The worked examples. Assumes nothing.
use Rattle.model.specs.declared.cell.Cell.{Cell}
use Rattle.examples.specs.Meters.{EveryInterference, OneMeter, EightMeters}
use Rattle.examples.specs.Orders.{Places, Passed}
use Rattle.examples.specs.Sheets.{Forms}
use Rattle.examples.specs.TwoSteps.{TwoSteps}

pub record Worked : Type 0 where
  -- the sheet of two steps: what it states, its plan, and what is forced
  pub two_steps : TwoSteps
  -- on the water line shut and note do not interfere, turn-on and lift do
  pub interference : EveryInterference
  -- the first plan for one meter and its card, what is forced, cells that are no plan, and a length that has none
  pub one_meter : OneMeter
  -- how large the largest line is
  pub eight_meters : EightMeters
  -- places in the two rankings
  pub places : Places
  -- how many places a path of one or two entries has passed
  pub passed : (first second : Cell) → Passed first second
  -- lines of the stated form
  pub forms : Forms
