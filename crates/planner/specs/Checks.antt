-- What the planner's own checks find before a call is carried out. Assumes nothing.
use Rattle.std.specs.Prelude.{◌≡◌, ℕ, ◌<◌, [], ◌∷◌, Result, MatchResult}
use Rattle.model.specs.declared.cell.Cell.{Cell}
use Rattle.model.specs.declared.answers.Outcome.{Outcome}
use Rattle.model.specs.declared.answers.Decline.{Decline}
use Rattle.model.specs.Problems.{steps}
use Rattle.model.specs.Held.{problem_of}
use Rattle.model.specs.Answers.{decline_number}
use Rattle.planner.specs.declared.tables.Stage.TheVariants as stage
use Rattle.planner.specs.declared.tables.Planner.{Planner}
use Rattle.planner.specs.Ledger.{unopened, unasked, out_of_range, first_fitting}
use Rattle.planner.specs.Obeys.{ledger}

-- the check passes, or names the first of these numbers that fits
abbrev pub Checked : {X : Type 0} → ℕ → (X → Type 0) → Result X Decline → Type 0
Checked n holds r = MatchResult r (λ x. (n ≡ 0) × holds x) (λ e. (decline_number e ≡ n) × (0 < n))

abbrev pub open_rows : Planner → ℕ
open_rows p = first_fitting ((unopened (ledger p), 21) ∷ [])

abbrev pub ask_rows : Planner → ℕ
ask_rows p = first_fitting ((unopened (ledger p), 21) ∷ (unasked (ledger p), 22) ∷ [])

abbrev pub cell_rows : Planner → ℕ → ℕ → ℕ
cell_rows p t o = first_fitting ((unopened (ledger p), 21) ∷ (unasked (ledger p), 22) ∷ (out_of_range (ledger p) t o, 24) ∷ [])

-- something was asked, and c is the cell of the time and the step, which are in range
pub record InRange (p : Planner) (t o : ℕ) (c : Cell) : Type 0 where
  pub outcome : Outcome
  pub stage : p.stage ≡ stage.Asked outcome
  pub time : c.time ≡ t
  pub step : c.step ≡ o
  pub in_time : t < p.search.length
  pub in_count : o < steps (problem_of p.search.problem)
