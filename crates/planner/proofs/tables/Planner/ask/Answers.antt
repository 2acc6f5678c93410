use Rattle.std.proofs.Common.{◌≡◌, ℕ, Bool, true, false, cond, refl, arith}
use Rattle.planner.specs.Ledger.{unopened}
use Rattle.planner.specs.Obeys.{ledger}
use Rattle.planner.proofs.Obeying.{ask_obeys}
use Rattle.planner.proofs.tables.Planner.ask.Goals as goal

pub ask-requires : goal.ask-requires
ask-requires g c = omega arith

not_fitting : (b : Bool) → ◌≡◌ {A = ℕ} (cond b 21 0) 0 → b ≡ false
not_fitting true h = absurd (omega arith)
not_fitting false h = refl

pub returns-clause-obeys : goal.returns-clause-obeys
returns-clause-obeys g c = ask_obeys c.args.self.now _ c.args.length _ (not_fitting (unopened (ledger c.args.self.now)) c.in_ok-opened.ensures.checked.0) (omega arith) refl c.ask.ensures
