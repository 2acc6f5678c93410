-- Planning problems, their limits, and steps that interfere. Assumes nothing.
use Rattle.std.specs.Prelude.{◌≡◌, ℕ, ◌<◌, ◌≤◌, Bool, true, false, not, ◌≢◌, ◌⊎◌, List, [], length, slice_index_or}
use Rattle.sets.specs.Literals.{Literal, pos, neg, opposite, fact}
use Rattle.sets.specs.Sets.{fact_in, lit_in, no_facts, no_literals}
use Rattle.sets.specs.declared.facts.FactSet.{FactSet}
use Rattle.sets.specs.declared.facts.LiteralSet.{LiteralSet}
use Rattle.model.specs.declared.step.Step.{Step}

infix 40 ◌∈◌
-- the literal is in the set
abbrev pub ◌∈◌ : Literal → LiteralSet → Type 0
l ∈ s = lit_in s l ≡ true

-- no literal stands in the set together with its opposite
abbrev pub Consistent : LiteralSet → Type 0
Consistent s = (l : Literal) → l ∈ s → opposite l ∈ s → ⊥

-- a state gives each fact a sign
abbrev pub State : Type 0
State = ℕ → Bool

-- the truth of a literal in a state
abbrev pub value : State → Literal → Bool
value s (pos f) = s f
value s (neg f) = not (s f)

-- the literal is true in the state
abbrev pub Holds : State → Literal → Type 0
Holds s l = value s l ≡ true

-- a problem: how many facts there are, its steps, the facts that are true at the start (all others are false there), and the literals
-- wanted at the end; facts and steps count from 0
pub record Problem : Type 0 where
  pub facts : ℕ
  pub rows : List Step
  pub start : FactSet
  pub goal : LiteralSet

-- what stands for a step beyond the count: closed, with no needs and no makes
abbrev pub closed_step : Step
closed_step = record { enabled = false; needs = no_literals; makes = no_literals }

-- the empty problem: one fact, false at the start, no steps and no goal
abbrev pub empty_problem : Problem
empty_problem = record { facts = 1; rows = []; start = no_facts; goal = no_literals }

-- how many steps there are
abbrev pub steps : Problem → ℕ
steps p = length p.rows

-- the step of a number
abbrev pub step : Problem → ℕ → Step
step p o = slice_index_or p.rows o closed_step

-- the step may be used
abbrev pub Open : Problem → ℕ → Type 0
Open p o = (step p o).enabled ≡ true

-- the step asks that the literal hold in the state in which it is taken
abbrev pub Needs : Problem → ℕ → Literal → Type 0
Needs p o l = l ∈ (step p o).needs

-- the step makes the literal hold in the next state
abbrev pub Makes : Problem → ℕ → Literal → Type 0
Makes p o l = l ∈ (step p o).makes

-- state 0: the facts of the start are true, the others false
abbrev pub start_state : Problem → State
start_state p = λ f. fact_in p.start f

-- the set is that of the literals of the problem's facts that hold at the start
pub record StartLiterals (p : Problem) (s : LiteralSet) : Type 0 where
  pub only : (l : Literal) → l ∈ s → (fact l < p.facts) × Holds (start_state p) l
  pub all : (l : Literal) → fact l < p.facts → Holds (start_state p) l → l ∈ s

-- every literal of the set names a fact of the problem
abbrev pub InRange : Problem → LiteralSet → Type 0
InRange p s = (l : Literal) → l ∈ s → fact l < p.facts

-- the limits that every problem keeps: 1 to 64 facts, at most 256 steps, no fact beyond the count, no set with a literal and its opposite
pub record WellFormed (p : Problem) : Type 0 where
  pub some_fact : 1 ≤ p.facts
  pub few_facts : p.facts ≤ 64
  pub few_steps : steps p ≤ 256
  pub start_in_range : (f : ℕ) → fact_in p.start f ≡ true → f < p.facts
  pub needs_in_range : (o : ℕ) → InRange p (step p o).needs
  pub makes_in_range : (o : ℕ) → InRange p (step p o).makes
  pub goal_in_range : InRange p p.goal
  pub needs_agree : (o : ℕ) → Consistent (step p o).needs
  pub makes_agree : (o : ℕ) → Consistent (step p o).makes
  pub goal_agrees : Consistent p.goal

-- step o makes the opposite of a literal that step o' needs or makes
abbrev pub Undoes : Problem → ℕ → ℕ → Type 0
Undoes p o o' = (l : Literal) × Makes p o (opposite l) × (Needs p o' l ⊎ Makes p o' l)

-- two different steps interfere when one undoes what the other needs or makes: they cannot share a time
abbrev pub Interfere : Problem → ℕ → ℕ → Type 0
Interfere p o o' = (o ≢ o') × (Undoes p o o' ⊎ Undoes p o' o)
