-- What can be reached in a problem, and the problem that is left when steps out of reach are closed. Assumes nothing.
use Rattle.std.specs.Prelude.{◌≡◌, ℕ, ◌<◌, Bool, false, not, ◌&&◌, ◌↔◌, List, slice_index_or}
use Rattle.sets.specs.Literals.{Literal, fact}
use Rattle.model.specs.declared.step.Step.{Step}
use Rattle.model.specs.Problems.{Problem, steps, step, start_state, Open, Needs, Makes, Holds}
use Rattle.model.specs.Plans.{Cells, IsPlan}
use Rattle.sources.specs.Listed.{tabulate}

-- the reach set, the least set that holds each literal true at the start and, with all needs of an open step, its makes
pub data Reached (p : Problem) : Literal → Type 0 where
  at_start : (l : Literal) → fact l < p.facts → Holds (start_state p) l → Reached p l
  made_by : (o : ℕ) (l : Literal) → Open p o → ((n : Literal) → Needs p o n → Reached p n) → Makes p o l → Reached p l

-- no need of the step is outside the reach set
abbrev pub Reachable : Problem → ℕ → Type 0
Reachable p o = (n : Literal) → Needs p o n → Reached p n

-- q is p, but each step with a need outside the reach set of p is closed
pub record Filters (p q : Problem) : Type 0 where
  pub facts_same : q.facts ≡ p.facts
  pub steps_same : steps q ≡ steps p
  pub start_same : q.start ≡ p.start
  pub goal_same : q.goal ≡ p.goal
  pub needs_same : (o : ℕ) → (step q o).needs ≡ (step p o).needs
  pub makes_same : (o : ℕ) → (step q o).makes ≡ (step p o).makes
  pub opens : (o : ℕ) → Open q o → Open p o × Reachable p o
  pub stays_open : (o : ℕ) → Open p o → Reachable p o → Open q o

-- the two problems have the same plans at every length; so whatever is pinned, the same plans keep the pins
abbrev pub SamePlans : Problem → Problem → Type 0
SamePlans p q = (T : ℕ) (c : Cells) → IsPlan q T c ↔ IsPlan p T c

-- the table says true of just the steps with a need outside the reach set
pub record Exact (p : Problem) (table : List Bool) : Type 0 where
  pub spares : (o : ℕ) → o < steps p → slice_index_or table o false ≡ false → Reachable p o
  pub spared : (o : ℕ) → o < steps p → Reachable p o → slice_index_or table o false ≡ false

-- a step that is closed where the flag says so
abbrev pub closed_where : Bool → Step → Step
closed_where flag s = record { enabled = s.enabled && not flag; needs = s.needs; makes = s.makes }

-- the problem with the steps closed of which the table says true
abbrev pub closing : Problem → List Bool → Problem
closing p table = record {
  facts = p.facts;
  rows = tabulate (steps p) (λ o. closed_where (slice_index_or table o false) (step p o));
  start = p.start;
  goal = p.goal;
}
