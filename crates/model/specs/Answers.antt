-- The numbers of the answers, and how they are printed. Assumes nothing.
use Rattle.std.specs.Prelude.{ℕ, List, ◌++◌, codes, decimal}
use Rattle.model.specs.declared.path.Side.{Side}
use Rattle.model.specs.declared.path.Side.TheVariants as side_is
use Rattle.model.specs.declared.path.Entry.{Entry}
use Rattle.model.specs.declared.answers.Outcome.{Outcome}
use Rattle.model.specs.declared.answers.Outcome.TheVariants.{NotYet, Plan, NoPlan}
use Rattle.model.specs.declared.answers.Forced.{Forced}
use Rattle.model.specs.declared.answers.Forced.TheVariants.{Undecided, Taken, LeftOut, Contradiction}
use Rattle.model.specs.declared.answers.Decline.{Decline}
use Rattle.model.specs.declared.answers.Decline.TheVariants.{Unopened, Unasked, TooLong, OutOfRange, Pinned, Unpinned, Grant, TooShort}

-- what a run says, as a number
abbrev pub outcome_number : Outcome → ℕ
outcome_number NotYet = 0
outcome_number Plan = 1
outcome_number NoPlan = 2

abbrev pub outcome_text : Outcome → List ℕ
outcome_text NotYet = codes "not yet"
outcome_text Plan = codes "plan"
outcome_text NoPlan = codes "none"

-- what forced answers of a cell, as a number
abbrev pub forced_number : Forced → ℕ
forced_number Undecided = 0
forced_number Taken = 1
forced_number LeftOut = 2
forced_number Contradiction = 3

abbrev pub forced_text : Forced → List ℕ
forced_text Undecided = codes "undecided"
forced_text Taken = codes "taken"
forced_text LeftOut = codes "left out"
forced_text Contradiction = codes "contradiction"

abbrev pub side_text : Side → List ℕ
side_text side_is.LeftOut = codes "left out"
side_text side_is.Taken = codes "taken"

-- the time, the step and the side
abbrev pub entry_text : Entry → List ℕ
entry_text e = decimal e.cell.time ++ codes " " ++ decimal e.cell.step ++ codes " " ++ side_text e.side

-- the number that a call is declined with
abbrev pub decline_number : Decline → ℕ
decline_number Unopened = 21
decline_number Unasked = 22
decline_number TooLong = 23
decline_number OutOfRange = 24
decline_number Pinned = 25
decline_number Unpinned = 26
decline_number Grant = 27
decline_number TooShort = 28
