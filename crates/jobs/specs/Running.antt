-- What a job's runs come to. Assumes nothing.
use Rattle.std.specs.Prelude.{◌≡◌, ℕ, ◌<◌, ◌≤◌, false}
use Rattle.model.specs.Problems.{steps}
use Rattle.model.specs.Paths.{passed}
use Rattle.model.specs.Choices.{Fair}
use Rattle.model.specs.Firsts.{None, NoneLeft}
use Rattle.planner.specs.declared.tables.Planner.{Planner}
use Rattle.planner.specs.Ledger.{Ledger, Ledger.asked, problem, ask, unasked}
use Rattle.planner.specs.Promises.{SuchPlan, cells}
use Rattle.planner.specs.Obeys.{ledger, path}

-- something is asked, and nothing is known of it yet
pub record Begun (L : Ledger) : Type 0 where
  pub known : unasked L ≡ false
  pub fresh : (ask L).outcome ≡ 0

-- the ledger with this outcome
abbrev pub with_outcome : Ledger → ℕ → Ledger
with_outcome L n = asked (problem L) (record { length = (ask L).length; order = (ask L).order; pins = (ask L).pins; outcome = n })

-- after some runs that did not end: the path has passed as many places as choices were granted in all
pub record Stretch (L : Ledger) (choices : ℕ) (q : Planner) : Type 0 where
  pub same : ledger q ≡ L
  pub passes : choices ≤ passed (cells L) (path q)
  pub fair : 0 < choices → Fair (ask L).length (steps (problem L)) (ask L).pins (path q)
  pub none_left : 0 < choices → NoneLeft (SuchPlan L) (path q)

-- after all runs, or an ending: the outcome is in the ledger; where it is not yet, a thousand million choices were made
pub record RanOut (L : Ledger) (q : Planner) : Type 0 where
  pub outcome : ℕ
  pub left : ledger q ≡ with_outcome L outcome
  pub small : outcome ≤ 2
  pub none : outcome ≡ 2 → None (SuchPlan L)
  pub open_still : outcome ≡ 0 → Stretch L 1000000000 q
