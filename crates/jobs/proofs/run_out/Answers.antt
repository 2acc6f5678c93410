use Rattle.std.proofs.Common.{◌≡◌, ℕ, ◌*◌, subst, arith}
use Rattle.model.specs.declared.answers.Outcome.{Outcome}
use Rattle.model.specs.Answers.{outcome_number, decline_number}
use Rattle.planner.specs.Ledger.{Event.run_call, Reply.answered}
use Rattle.planner.specs.Obeys.{Obeys, ledger}
use Rattle.jobs.specs.Running.{Stretch}
use Rattle.jobs.proofs.Runs.{run_refused, stretch_none, stretch_more, ran_open, ran_ended}
use Rattle.jobs.proofs.run_out.Goals as goal

pub loop-run-init : goal.loop-run-init
loop-run-init c = λ b. stretch_none c.args.planner.now

pub returns-in_err-run : goal.returns-in_err-run
returns-in_err-run c = λ b. absurd (run_refused (ledger c.args.planner.now) c.loop-run.planner c.run.new.self (decline_number c.in_err-run.field-0.0) b (c.loop-run.invariant b).same c.in_err-run.ensures.obeys)

pub returns-in_default : goal.returns-in_default
returns-in_default c = λ b. ran_ended (ledger c.args.planner.now) c.loop-run.planner c.run.new.self c.in_ok-run.field-0 b (c.loop-run.invariant b).same c.in_ok-run.ensures.obeys c.in_default.not-NotYet

pub loop-run-preserved : goal.loop-run-preserved
loop-run-preserved c = λ b.
    stretch_more (ledger c.args.planner.now) c.loop-run.planner c.run.new.self c.loop-run.run b (c.loop-run.invariant b)
    (subst (λ (x : Outcome). Obeys c.loop-run.planner (run_call 1000000 (answered (outcome_number x))) c.run.new.self) c.in-NotYet.is c.in_ok-run.ensures.obeys)

pub returns : goal.returns
returns c = λ b.
    let e : c.loop-run.run ≡ 1000 = omega (arith, c.loop-run.auto.run-end) in
    ran_open (ledger c.args.planner.now) c.loop-run.planner b
    (subst (λ (n : ℕ). Stretch (ledger c.args.planner.now) (n * 1000000) c.loop-run.planner) e (c.loop-run.invariant b))
