use Rattle.std.proofs.Common.{◌≡◌, ℕ, List, Option, Some, None as Nothing, Result, sym, subst}
use Rattle.std.specs.Option.{ok_or}
use Rattle.model.specs.declared.answers.Decline.{Decline}
use Rattle.model.specs.declared.answers.Decline.TheVariants.{TooShort}
use Rattle.planner.specs.declared.tables.Planner.{Planner}
use Rattle.planner.specs.Calls.{Writes, Reports, look_declines}
use Rattle.planner.specs.Ledger.{Event.report_call}
use Rattle.planner.specs.Obeys.{Obeys, reply}
use Rattle.planner.proofs.Obeying.{report_obeys}
use Rattle.planner.proofs.tables.Planner.report.Goals as goal

-- by whether there was room
says : (p : Planner) (out out' : List ℕ) → look_declines p ≡ Nothing → (r : Option ℕ) → Writes p out r out'
    → Reports p out (ok_or r TooShort) out'
says p out out' none (Some n) w = (none, w)
says p out out' none Nothing w = (none, w)

pub returns-clause-says : goal.returns-clause-says
returns-clause-says c =
    subst (λ (r : Result ℕ Decline). Reports c.args.self.now c.args.out.now r c.write.new.out) (sym c.ok_or.ensures.value)
    (says c.args.self.now c.args.out.now c.write.new.out (sym c.in_ok-outcome.ensures.number) c.write.result (c.write.ensures.card c.in_ok-outcome.ensures.checked.1))

pub returns-clause-obeys : goal.returns-clause-obeys
returns-clause-obeys c =
    subst (λ (r : Result ℕ Decline). Obeys c.args.self.now (report_call c.args.out.now (reply (λ n. n) r) c.write.new.out) c.args.self.now) (sym c.ok_or.ensures.value)
    (report_obeys c.args.self.now c.args.out.now c.write.new.out c.in_ok-outcome.outcome c.in_ok-outcome.ensures.checked.1 c.write.result (c.write.ensures.told c.in_ok-outcome.ensures.checked.1))
