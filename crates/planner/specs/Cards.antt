-- What is written of an outcome, once something was asked. Assumes nothing.
use Rattle.std.specs.Prelude.{ℕ, List, Option}
use Rattle.text.specs.Written.{Fitted}
use Rattle.planner.specs.declared.tables.Planner.{Planner}
use Rattle.planner.specs.Promises.{CardOf}
use Rattle.planner.specs.Obeys.{ledger}

-- the card of the ledger's outcome is written whole, or there are too few bytes for it and they stand as before
abbrev pub Writes : Planner → List ℕ → Option ℕ → List ℕ → Type 0
Writes p out r out' = ∥ ((text : List ℕ) × CardOf (ledger p) text × Fitted text out r out') ∥₁
