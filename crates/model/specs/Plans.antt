-- Plans: which cells are taken, the states that they lead through, and pins. Assumes nothing.
use Rattle.std.specs.Prelude.{◌≡◌, ℕ, zero, suc, ◌<◌, Bool, true, false, not, ◌&&◌, ◌||◌}
use Rattle.sets.specs.Literals.{Literal, pos, neg}
use Rattle.sets.specs.Sets.{lit_in}
use Rattle.model.specs.Problems.{Problem, steps, step, start_state, Open, Needs, Interfere, State, Holds, ◌∈◌}

-- a set of cells, by time and step: whether the cell is taken
abbrev pub Cells : Type 0
Cells = ℕ → ℕ → Bool

-- step o is taken at time t
abbrev pub Taken : Cells → ℕ → ℕ → Type 0
Taken c t o = c t o ≡ true

-- step o is left out at time t
abbrev pub LeftOut : Cells → ℕ → ℕ → Type 0
LeftOut c t o = c t o ≡ false

-- whether some number below n passes
abbrev pub some_below : ℕ → (ℕ → Bool) → Bool
some_below zero test = false
some_below (suc n) test = test n || some_below n test

-- a state with the literals put in that are made: facts made true are true, facts made false are false, the others stay
abbrev pub put : State → (Literal → Bool) → State
put s made = λ f. made (pos f) || (s f && not (made (neg f)))

-- whether some step taken at time t makes the literal
abbrev pub made_at : Problem → Cells → ℕ → Literal → Bool
made_at p c t = λ l. some_below (steps p) (λ o. c t o && lit_in (step p o).makes l)

-- the state at a time: the start, and then each time's makes put in
abbrev pub state : Problem → Cells → ℕ → State
state p c zero = start_state p
state p c (suc t) = put (state p c t) (made_at p c t)

-- a plan of length T: its cells lie below the length and the step count; the steps of a time are open, do not interfere, and have
-- their needs in its state; the goal holds in state T
pub record IsPlan (p : Problem) (T : ℕ) (c : Cells) : Type 0 where
  pub within : (t o : ℕ) → Taken c t o → (t < T) × (o < steps p)
  pub opens : (t o : ℕ) → Taken c t o → Open p o
  pub apart : (t o o' : ℕ) → Taken c t o → Taken c t o' → Interfere p o o' → ⊥
  pub ready : (t o : ℕ) (l : Literal) → Taken c t o → Needs p o l → Holds (state p c t) l
  pub reaches : (l : Literal) → l ∈ p.goal → Holds (state p c T) l

-- what a pin says of a cell: nothing, that it is taken, or that it is left out
pub data Pin : Type 0 where
  unpinned take leave : Pin

-- the pins, by time and step
abbrev pub Pins : Type 0
Pins = ℕ → ℕ → Pin

-- the plan agrees with each pin
pub record Keeps (pins : Pins) (c : Cells) : Type 0 where
  pub takes : (t o : ℕ) → pins t o ≡ take → Taken c t o
  pub leaves : (t o : ℕ) → pins t o ≡ leave → LeftOut c t o
