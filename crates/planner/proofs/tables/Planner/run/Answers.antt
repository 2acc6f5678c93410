use Rattle.std.proofs.Common.{ap, ◌∙◌, refl}
use Rattle.planner.specs.declared.tables.Stage.TheVariants as stage
use Rattle.planner.proofs.Saying.{again, ends, says}
use Rattle.planner.proofs.Obeying.{run_obeys, run_again}
use Rattle.planner.proofs.tables.Planner.run.Goals as goal

pub returns-in_default-clause-says : goal.returns-in_default-clause-says
returns-in_default-clause-says c = again c.args.self.now c.args.choices c.in_ok-last.last c.in_ok-last.ensures.checked.1 c.in_default.not-NotYet

pub returns-in_default-clause-obeys : goal.returns-in_default-clause-obeys
returns-in_default-clause-obeys c =
    run_again c.args.self.now c.args.choices c.in_ok-last.last c.in_ok-last.ensures.checked.1 c.in_default.not-NotYet c.if-choices-eq0.false c.if-choices-gt-MOST_CHOICES.false

pub invariant_of-self : goal.invariant_of-self
invariant_of-self c = record {
  ended = ∣ ends c.args.self.now.search c.run-outcome.new.self c.args.choices c.run-outcome.result c.run-outcome.ensures.same c.run-outcome.ensures.ran ∣₁;
}

pub returns-clause-says : goal.returns-clause-says
returns-clause-says c = says c.args.self.now _ c.args.choices c.run-outcome.result c.run-outcome.ensures.same c.run-outcome.ensures.ran

pub returns-clause-obeys : goal.returns-clause-obeys
returns-clause-obeys c =
    run_obeys c.args.self.now _ c.args.choices c.run-outcome.result (c.in_ok-last.ensures.checked.1 ∙ ap stage.Asked c.in-NotYet.is) c.if-choices-eq0.false c.if-choices-gt-MOST_CHOICES.false refl
    c.run-outcome.ensures.same c.run-outcome.ensures.ran
