-- The water line: which steps interfere, and the plans for one meter. Assumes nothing.
use Rattle.std.specs.Prelude.{◌≡◌, ℕ, ◌+◌, ◌*◌, ◌<◌, ◌≤◌, List, [], ◌∷◌, codes}
use Rattle.model.specs.Problems.{steps, step, Interfere}
use Rattle.model.specs.Plans.{Cells, Taken, LeftOut, IsPlan}
use Rattle.model.specs.Clauses.{Clauses, Kept}
use Rattle.model.specs.Firsts.{First, Such}
use Rattle.model.specs.Marks.{taken, left_out, Forced}
use Rattle.sources.specs.Built.{forward}
use Rattle.sources.specs.Water.{water_line, shut, turn_on, note, lift}
use Rattle.text.specs.Cards.{card_of}
use Rattle.examples.specs.Plans.{taking, no_pins, lines}

-- of meter j on a line of k meters: steps 0 and 1 are shut and turn_on, steps 2 + 7j and 4 + 7j its note and lift; shut and note do
-- not interfere, turn_on and lift do
pub record Interference (k j : ℕ) : Type 0 where
  pub is_shut : step (water_line k) 0 ≡ shut
  pub is_turn_on : step (water_line k) 1 ≡ turn_on k
  pub is_note : step (water_line k) (2 + 7 * j) ≡ note j
  pub is_lift : step (water_line k) (4 + 7 * j) ≡ lift j
  pub shut_and_note : Interfere (water_line k) 0 (2 + 7 * j) → ⊥
  pub turn_on_and_lift : Interfere (water_line k) 1 (4 + 7 * j)

-- for every number of meters
abbrev pub EveryInterference : Type 0
EveryInterference = (k j : ℕ) → k ≤ 8 → j < k → Interference k j

-- the steps of each time
abbrev pub one_meter_times : List (List ℕ)
one_meter_times = (2 ∷ []) ∷ (0 ∷ 3 ∷ []) ∷ (4 ∷ []) ∷ (5 ∷ []) ∷ (1 ∷ 6 ∷ []) ∷ (7 ∷ 8 ∷ []) ∷ []

-- the same, but unseal moved to time 0: it needs noted, which note makes only for time 1
abbrev pub unsealed_too_early : List (List ℕ)
unsealed_too_early = (2 ∷ 3 ∷ []) ∷ (0 ∷ []) ∷ (4 ∷ []) ∷ (5 ∷ []) ∷ (1 ∷ 6 ∷ []) ∷ (7 ∷ 8 ∷ []) ∷ []

-- the bytes of its card
abbrev pub one_meter_card : List ℕ
one_meter_card = lines (
    codes "0: 2"
    ∷ codes "1: 0 3"
    ∷ codes "2: 4"
    ∷ codes "3: 5"
    ∷ codes "4: 1 6"
    ∷ codes "5: 7 8"
    ∷ [])

-- the cells that are forced taken: those of the plan but for shut
abbrev pub forced_times : List (List ℕ)
forced_times = (2 ∷ []) ∷ (3 ∷ []) ∷ (4 ∷ []) ∷ (5 ∷ []) ∷ (1 ∷ 6 ∷ []) ∷ (7 ∷ 8 ∷ []) ∷ []

-- the four cells of which nothing is forced: shut at time 0 or 1, note at time 1, clip at time 5
abbrev pub undecided_times : List (List ℕ)
undecided_times = (0 ∷ []) ∷ (0 ∷ 2 ∷ []) ∷ [] ∷ [] ∷ [] ∷ (6 ∷ []) ∷ []

-- with kept clauses V, at length 6 and with no pins: every other cell is forced left out
pub record OneMeterForces (V : Clauses) : Type 0 where
  pub takes : (t o : ℕ) → Taken (taking forced_times) t o → Forced (water_line 1) 6 no_pins V (taken t o)
  pub leaves : (t o : ℕ) → t < 6 → o < 9 → LeftOut (taking forced_times) t o → LeftOut (taking undecided_times) t o
      → Forced (water_line 1) 6 no_pins V (left_out t o)
  pub not_taken : (t o : ℕ) → Taken (taking undecided_times) t o → Forced (water_line 1) 6 no_pins V (taken t o) → ⊥
  pub not_left_out : (t o : ℕ) → Taken (taking undecided_times) t o → Forced (water_line 1) 6 no_pins V (left_out t o) → ⊥

pub record OneMeter : Type 0 where
  pub nine_steps : steps (water_line 1) ≡ 9
  pub plan : IsPlan (water_line 1) 6 (taking one_meter_times)
  pub card : card_of (taking one_meter_times) 9 6 ≡ one_meter_card
  -- of all plans of this length, it comes first forward
  pub first : First (Such (water_line 1) 6 no_pins) 6 9 (forward.cell 6 9) (taking one_meter_times)
  pub too_early : IsPlan (water_line 1) 6 (taking unsealed_too_early) → ⊥
  pub too_short : (c : Cells) → IsPlan (water_line 1) 5 c → ⊥
  pub forces : (V : Clauses) → Kept (water_line 1) V → OneMeterForces V

pub record EightMeters : Type 0 where
  pub facts : (water_line 8).facts ≡ 57
  pub steps_in_all : steps (water_line 8) ≡ 58
