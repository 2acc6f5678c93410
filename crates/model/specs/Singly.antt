-- The steps of one time taken singly, in some order. Assumes nothing.
use Rattle.std.specs.Prelude.{◌≡◌, ℕ, suc, ◌⊎◌, ◌↔◌, List, [], ◌∷◌}
use Rattle.sets.specs.Literals.{Literal}
use Rattle.sets.specs.Sets.{lit_in}
use Rattle.model.specs.Problems.{Problem, step, Needs, State, Holds}
use Rattle.model.specs.Plans.{Cells, Taken, put, state}

-- the step is in the list
abbrev pub Among : ℕ → List ℕ → Type 0
Among o [] = ⊥
Among o (x ∷ xs) = (o ≡ x) ⊎ Among o xs

-- no step is in the list twice
abbrev pub NoRepeats : List ℕ → Type 0
NoRepeats [] = Unit {0}
NoRepeats (x ∷ xs) = (Among x xs → ⊥) × NoRepeats xs

-- an order of the steps taken at time t: each of them, and no other, once
pub record OrderOf (c : Cells) (t : ℕ) (order : List ℕ) : Type 0 where
  pub each : (o : ℕ) → Among o order ↔ Taken c t o
  pub once : NoRepeats order

-- the state after a step alone
abbrev pub after : Problem → State → ℕ → State
after p s o = put s (lit_in (step p o).makes)

-- the state after all steps of the list, one after another
abbrev pub after_all : Problem → State → List ℕ → State
after_all p s [] = s
after_all p s (o ∷ os) = after_all p (after p s o) os

-- no step lacks a need at its turn
abbrev pub NeverLacks : Problem → State → List ℕ → Type 0
NeverLacks p s [] = Unit {0}
NeverLacks p s (o ∷ os) = ((l : Literal) → Needs p o l → Holds s l) × NeverLacks p (after p s o) os

-- no order of any one time's steps breaks the plan: each step has its needs at its turn, and the end is the next state
abbrev pub Unbroken : Problem → Cells → Type 0
Unbroken p c = (t : ℕ) (order : List ℕ) → OrderOf c t order
    → NeverLacks p (state p c t) order × ((f : ℕ) → after_all p (state p c t) order f ≡ state p c (suc t) f)
