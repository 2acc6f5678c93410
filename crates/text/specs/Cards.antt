-- The job card: the plan's times, each with the steps taken then, as bytes. Assumes nothing.
use Rattle.std.specs.Prelude.{ℕ, zero, suc, Bool, cond, List, [], ◌∷◌, ◌++◌, codes, decimal, slice_index_or}
use Rattle.sets.specs.Sets.{step_in, no_steps}
use Rattle.sets.specs.declared.steps.StepSet.{StepSet}
use Rattle.model.specs.Plans.{Cells}

-- a blank and the number of each taken step below n, rising
abbrev pub steps_up_to : (ℕ → Bool) → ℕ → List ℕ
steps_up_to taken zero = []
steps_up_to taken (suc n) = steps_up_to taken n ++ cond (taken n) (32 ∷ decimal n) []

-- the time, a colon, the steps of m that are taken, a line feed
abbrev pub line_of : (ℕ → Bool) → ℕ → ℕ → List ℕ
line_of taken m t = (decimal t ++ (58 ∷ [])) ++ (steps_up_to taken m ++ (10 ∷ []))

-- a line for each time below the length T; no bytes at length 0
abbrev pub card_of : Cells → ℕ → ℕ → List ℕ
card_of taken m zero = []
card_of taken m (suc t) = card_of taken m t ++ line_of (taken t) m t

-- the card where there is no plan, and where it is not known yet
abbrev pub none_card : List ℕ
none_card = codes "none" ++ (10 ∷ [])

abbrev pub not_yet_card : List ℕ
not_yet_card = codes "not yet" ++ (10 ∷ [])

-- the cells that a table of the steps taken at each time holds
abbrev pub taken_in : List StepSet → Cells
taken_in table = λ t o. step_in (slice_index_or table t no_steps) o
