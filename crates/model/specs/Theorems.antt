-- The theorems of the model. Assumes nothing.
use Rattle.std.specs.Prelude.{◌≡◌, ℕ, suc, ◌<◌, Bool, true, ◌⊎◌, List}
use Rattle.model.specs.Problems.{Problem, WellFormed, steps, Open}
use Rattle.model.specs.Plans.{Cells, IsPlan, state, Pins, take, Keeps}
use Rattle.model.specs.Singly.{OrderOf, NeverLacks, after_all}
use Rattle.sets.specs.Literals.{Literal}
use Rattle.model.specs.Clauses.{Clauses, Clause, Barred, Spoils, AllHold, Kept, Within, Largest}
use Rattle.model.specs.Marks.{Mark, taken, left_out, Frame, Closed, Contradiction, cells_of, Forced, agrees}

-- every order of one time's steps, taken singly, has each step's needs at its turn and ends in the next state
abbrev pub OrderFree : Type 0
OrderFree = (p : Problem) (T : ℕ) (c : Cells) → WellFormed p → IsPlan p T c → (t : ℕ) (order : List ℕ) → OrderOf c t order
    → NeverLacks p (state p c t) order × ((f : ℕ) → after_all p (state p c t) order f ≡ state p c (suc t) f)

-- every plan that keeps the pins agrees with what is forced, if the clauses hold in its states
abbrev pub MarksSound : Type 0
MarksSound = (p : Problem) (T : ℕ) (pins : Pins) (V : Clauses) (c : Cells) → WellFormed p → IsPlan p T c → Keeps pins c
    → ((t : ℕ) → AllHold V (state p c t)) → (m : Mark) → Forced p T pins V m → agrees p c m ≡ true

-- kept clauses hold in every state of every plan
abbrev pub KeptHold : Type 0
KeptHold = (p : Problem) (T : ℕ) (V : Clauses) (c : Cells) → WellFormed p → Kept p V → IsPlan p T c → (t : ℕ) → AllHold V (state p c t)

-- marks that fit the frame, on every cell and without contradiction, take the cells of a plan that keeps the pins
abbrev pub MarksPlan : Type 0
MarksPlan = (p : Problem) (T : ℕ) (pins : Pins) (M : Mark → Bool) → WellFormed p
    → ((t o : ℕ) → pins t o ≡ take → (t < T) × (o < steps p))
    → Frame p T pins (λ m. M m ≡ true)
    → ((t o : ℕ) → t < T → o < steps p → (M (taken t o) ≡ true) ⊎ (M (left_out t o) ≡ true))
    → (Contradiction (λ m. M m ≡ true) → ⊥)
    → IsPlan p T (cells_of p T M) × Keeps pins (cells_of p T M)

-- what every closed set marks is itself a closed set, and so the least one
abbrev pub ForcedClosed : Type 0
ForcedClosed = (p : Problem) (T : ℕ) (pins : Pins) (V : Clauses) → Closed p T pins V (Forced p T pins V)

-- what is forced lies in every closed set of marks
abbrev pub ForcedLeast : Type 0
ForcedLeast = (p : Problem) (T : ℕ) (pins : Pins) (V : Clauses) (M : Mark → Bool) → Closed p T pins V (λ m. M m ≡ true)
    → (m : Mark) → Forced p T pins V m → M m ≡ true

-- there is one largest set: two of them have the same clauses
abbrev pub LargestUnique : Type 0
LargestUnique = (p : Problem) (V W : Clauses) → Largest p V → Largest p W → (a b : Literal) → V a b ≡ W a b

-- a clause that a step spoils under a larger set is in no kept set: so it may be struck from the larger one
abbrev pub SpoiltGoes : Type 0
SpoiltGoes = (p : Problem) (V W : Clauses) → Kept p V → Within V W → (o : ℕ) (a b : Literal) → Open p o → (Barred p W o → ⊥)
    → Spoils p W o a b → Clause V a b → ⊥

-- where the forced marks contradict there is no plan
abbrev pub ContradictionNone : Type 0
ContradictionNone = (p : Problem) (T : ℕ) (pins : Pins) (V : Clauses) → WellFormed p → Kept p V → Contradiction (Forced p T pins V)
    → (c : Cells) → IsPlan p T c → Keeps pins c → ⊥
