-- What the rules force on the two-step sheet. Assumes nothing.
use Rattle.std.specs.Prelude.{Bool, false, ◌&&◌, ◌||◌, [], ◌∷◌, ◌==◌}
use Rattle.sets.specs.Literals.{Literal, pos, neg}
use Rattle.model.specs.Plans.{IsPlan}
use Rattle.model.specs.Clauses.{Clauses, Largest}
use Rattle.model.specs.Marks.{taken, left_out, Forced, Contradiction}
use Rattle.examples.specs.Plans.{taking, no_pins}
use Rattle.examples.specs.Sheets.{two_steps, SheetStates}

abbrev pub same_literal : Literal → Literal → Bool
same_literal (pos f) (pos g) = f == g
same_literal (pos f) (neg g) = false
same_literal (neg f) (pos g) = false
same_literal (neg f) (neg g) = f == g

-- the one clause {a, b}
abbrev pub pair : Literal → Literal → Clauses
pair a b = λ x y. (same_literal x a && same_literal y b) || (same_literal x b && same_literal y a)

-- {wet, −wet}, {done, −done} and {−wet, −done}
abbrev pub two_step_clauses : Clauses
two_step_clauses = λ x y. pair (pos 0) (neg 0) x y || (pair (pos 1) (neg 1) x y || pair (neg 0) (neg 1) x y)

-- at length 2 every cell is forced, and nothing carries both marks; at length 1 something does
pub record Forces (V : Clauses) : Type 0 where
  pub dry_first : Forced two_steps 2 no_pins V (taken 0 0)
  pub fit_second : Forced two_steps 2 no_pins V (taken 1 1)
  pub fit_not_first : Forced two_steps 2 no_pins V (left_out 0 1)
  pub dry_not_second : Forced two_steps 2 no_pins V (left_out 1 0)
  pub no_contradiction : Contradiction (Forced two_steps 2 no_pins V) → ⊥
  pub too_short : Contradiction (Forced two_steps 1 no_pins V)

pub record TwoSteps : Type 0 where
  -- the problem is what the sheet's bytes state
  pub stated : SheetStates
  -- dry at time 0 and fit at time 1 is a plan of length 2
  pub plan : IsPlan two_steps 2 (taking ((0 ∷ []) ∷ (1 ∷ []) ∷ []))
  -- its kept clauses
  pub clauses : Largest two_steps two_step_clauses
  -- what the marks force, with the kept clauses
  pub forces : (V : Clauses) → Largest two_steps V → Forces V
