-- The water line, with k old meters that are to be exchanged for meters with a radio. Assumes nothing.
use Rattle.std.specs.Prelude.{ℕ, zero, suc, ◌+◌, ◌*◌, ◌/◌, ◌%◌, true, List, [], ◌∷◌, slice_index_or}
use Rattle.sets.specs.Literals.{Literal, pos, neg}
use Rattle.model.specs.declared.step.Step.{Step}
use Rattle.model.specs.Problems.{Problem, closed_step}
use Rattle.sources.specs.declared.water.MetersFault.{MetersFault}
use Rattle.sources.specs.declared.water.MetersFault.TheVariants.{NotOneToEight}
use Rattle.sources.specs.declared.water.MeterFact.{MeterFact}
use Rattle.sources.specs.declared.water.MeterFact.TheVariants.{Old, Gap, New, Noted, Sealed, Radio, Paired}
use Rattle.sources.specs.Listed.{facts_of, literals_of, tabulate}

-- the number of a refusal
abbrev pub number_of : MetersFault → ℕ
number_of NotOneToEight = 31

-- ---- the facts: of the line, that its water is open; of meter j, seven

abbrev pub line_open : ℕ
line_open = 0

-- the place of a fact among the meter's seven
abbrev pub place_of : MeterFact → ℕ
place_of Old = 0
place_of Gap = 1
place_of New = 2
place_of Noted = 3
place_of Sealed = 4
place_of Radio = 5
place_of Paired = 6

-- by its place among the meter's seven
abbrev pub fact_of_meter : ℕ → ℕ → ℕ
fact_of_meter j place = 1 + 7 * j + place

-- the old meter is in its place
abbrev pub old : ℕ → ℕ
old j = fact_of_meter j 0

-- there is no meter in its place
abbrev pub gap : ℕ → ℕ
gap j = fact_of_meter j 1

-- the new meter is in its place
abbrev pub new : ℕ → ℕ
new j = fact_of_meter j 2

-- the old meter's count is noted
abbrev pub noted : ℕ → ℕ
noted j = fact_of_meter j 3

-- the meter is sealed
abbrev pub sealed : ℕ → ℕ
sealed j = fact_of_meter j 4

-- the radio is clipped on
abbrev pub radio : ℕ → ℕ
radio j = fact_of_meter j 5

-- the radio is paired
abbrev pub paired : ℕ → ℕ
paired j = fact_of_meter j 6

-- ---- the steps: an open step by its needs and its makes

abbrev pub is : ℕ → Literal
is f = pos f

abbrev pub is_not : ℕ → Literal
is_not f = neg f

abbrev pub open_step : List Literal → List Literal → Step
open_step needs makes = record { enabled = true; needs = literals_of needs; makes = literals_of makes }

-- no gap at any of the meters below k
abbrev pub no_gaps : ℕ → List Literal
no_gaps zero = []
no_gaps (suc j) = is_not (gap j) ∷ no_gaps j

abbrev pub shut : Step
shut = open_step (is line_open ∷ []) (is_not line_open ∷ [])

abbrev pub turn_on : ℕ → Step
turn_on k = open_step (is_not line_open ∷ no_gaps k) (is line_open ∷ [])

abbrev pub note : ℕ → Step
note j = open_step (is (old j) ∷ []) (is (noted j) ∷ [])

abbrev pub unseal : ℕ → Step
unseal j = open_step (is (sealed j) ∷ is (noted j) ∷ []) (is_not (sealed j) ∷ [])

abbrev pub lift : ℕ → Step
lift j = open_step (is (old j) ∷ is_not (sealed j) ∷ is_not line_open ∷ []) (is_not (old j) ∷ is (gap j) ∷ [])

abbrev pub fit : ℕ → Step
fit j = open_step (is (gap j) ∷ is_not line_open ∷ []) (is_not (gap j) ∷ is (new j) ∷ [])

abbrev pub clip : ℕ → Step
clip j = open_step (is (new j) ∷ []) (is (radio j) ∷ [])

abbrev pub pair : ℕ → Step
pair j = open_step (is (radio j) ∷ is line_open ∷ []) (is (paired j) ∷ [])

abbrev pub seal : ℕ → Step
seal j = open_step (is (new j) ∷ is line_open ∷ []) (is (sealed j) ∷ [])

-- the steps of meter j, in order
abbrev pub meter_steps : ℕ → List Step
meter_steps j = note j ∷ unseal j ∷ lift j ∷ fit j ∷ clip j ∷ pair j ∷ seal j ∷ []

-- steps 0 and 1 are of the line, and meter j has steps 2 + 7j onward
abbrev pub water_step : ℕ → ℕ → Step
water_step k zero = shut
water_step k (suc zero) = turn_on k
water_step k (suc (suc n)) = slice_index_or (meter_steps (n / 7)) (n % 7) closed_step

-- ---- the start and the goal

-- old and sealed of every meter below k
abbrev pub at_first : ℕ → List ℕ
at_first zero = []
at_first (suc j) = old j ∷ sealed j ∷ at_first j

-- paired and sealed of every meter below k
abbrev pub wanted : ℕ → List Literal
wanted zero = []
wanted (suc j) = is (paired j) ∷ is (sealed j) ∷ wanted j

abbrev pub water_line : ℕ → Problem
water_line k = record {
  facts = 1 + 7 * k;
  rows = tabulate (2 + 7 * k) (water_step k);
  start = facts_of (line_open ∷ at_first k);
  goal = literals_of (is line_open ∷ wanted k);
}
