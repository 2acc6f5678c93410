-- Marks on facts and cells, and what they force. Assumes nothing.
use Rattle.std.specs.Prelude.{◌≡◌, ℕ, suc, ◌<◌, Bool, true, not, ◌&&◌, ◌≢◌, ◌⊎◌, nat_lt}
use Rattle.sets.specs.Literals.{Literal, opposite, fact}
use Rattle.model.specs.Problems.{Problem, steps, step, start_state, Needs, Makes, Interfere, value, Holds, ◌∈◌}
use Rattle.model.specs.Plans.{Cells, Pins, take, leave, state}
use Rattle.model.specs.Clauses.{Clauses, Clause}

-- a mark says of a literal that it is true at a time, or of a cell that it is taken or left out
pub data Mark : Type 0 where
  true_at : Literal → ℕ → Mark
  taken left_out : ℕ → ℕ → Mark

-- the mark that says false of a literal says true of its opposite
abbrev pub false_at : Literal → ℕ → Mark
false_at l t = true_at (opposite l) t

module _ (p : Problem) (T : ℕ) (pins : Pins) (M : Mark → Type 0) where
  -- every step that makes the literal is left out at t
  abbrev pub NoMaker : Literal → ℕ → Type 0
  NoMaker l t = (o : ℕ) → o < steps p → Makes p o l → M (left_out t o)

  -- every step that makes the literal, other than o, is left out at t
  abbrev pub NoMakerBut : ℕ → Literal → ℕ → Type 0
  NoMakerBut o l t = (o' : ℕ) → o' < steps p → o' ≢ o → Makes p o' l → M (left_out t o')

  -- the rules by which a plan is told: the start, the goal, the pins and the closed steps are marked; a taken step's needs are true
  -- at its time, its makes at the next, and the steps that interfere with it are left out; what no step makes stays as it was
  pub record Frame : Type 0 where
    pub start : (l : Literal) → fact l < p.facts → Holds (start_state p) l → M (true_at l 0)
    pub goal : (l : Literal) → l ∈ p.goal → M (true_at l T)
    pub pinned_in : (t o : ℕ) → t < T → o < steps p → pins t o ≡ take → M (taken t o)
    pub pinned_out : (t o : ℕ) → t < T → o < steps p → pins t o ≡ leave → M (left_out t o)
    pub closed : (t o : ℕ) → t < T → o < steps p → ((step p o).enabled ≢ true) → M (left_out t o)
    pub needs : (t o : ℕ) (l : Literal) → M (taken t o) → Needs p o l → M (true_at l t)
    pub makes : (t o : ℕ) (l : Literal) → M (taken t o) → Makes p o l → M (true_at l (suc t))
    pub rivals : (t o o' : ℕ) → o' < steps p → M (taken t o) → Interfere p o o' → M (left_out t o')
    pub stays_false : (t : ℕ) (l : Literal) → t < T → NoMaker l t → M (false_at l t) → M (false_at l (suc t))
    pub was_true : (t : ℕ) (l : Literal) → t < T → NoMaker l t → M (true_at l (suc t)) → M (true_at l t)

-- a set of marks closed under all rules, with a set V of clauses: also, a step whose need or make is false is left out; the only
-- step left to make a literal that turns true is taken; of a clause with one literal false the other is true
pub record Closed (p : Problem) (T : ℕ) (pins : Pins) (V : Clauses) (M : Mark → Type 0) : Type 0 where
  pub frame : Frame p T pins M
  pub need_false : (t o : ℕ) (l : Literal) → t < T → o < steps p → Needs p o l → M (false_at l t) → M (left_out t o)
  pub make_false : (t o : ℕ) (l : Literal) → t < T → o < steps p → Makes p o l → M (false_at l (suc t)) → M (left_out t o)
  pub only_maker : (t o : ℕ) (l : Literal) → t < T → o < steps p → Makes p o l → NoMakerBut p T pins M o l t
      → M (false_at l t) → M (true_at l (suc t)) → M (taken t o)
  pub clause : (t : ℕ) (a b : Literal) → Clause V a b → M (false_at a t) → M (true_at b t)

-- the least closed set: what every closed set marks
abbrev pub Forced : Problem → ℕ → Pins → Clauses → Mark → Type 0
Forced p T pins V m = (M : Mark → Bool) → Closed p T pins V (λ x. M x ≡ true) → M m ≡ true

-- something carries both marks
abbrev pub Contradiction : (Mark → Type 0) → Type 0
Contradiction M = ((l : Literal) × (t : ℕ) × M (true_at l t) × M (false_at l t)) ⊎ ((t o : ℕ) × M (taken t o) × M (left_out t o))

-- the cells, in range, that a set of marks takes
abbrev pub cells_of : Problem → ℕ → (Mark → Bool) → Cells
cells_of p T M = λ t o. (nat_lt t T && nat_lt o (steps p)) && M (taken t o)

-- whether a mark says what the plan does
abbrev pub agrees : Problem → Cells → Mark → Bool
agrees p c (true_at l t) = value (state p c t) l
agrees p c (taken t o) = c t o
agrees p c (left_out t o) = not (c t o)
