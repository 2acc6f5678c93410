use Rattle.std.proofs.Common.{arith}
use Rattle.model.proofs.Fitting.{fits}
use Rattle.model.proofs.table.ProblemTable.of.Goals as goal

pub invariant_of-result : goal.invariant_of-result
invariant_of-result g c =
    let p = g.S.ProblemSource.meaning c.args.source.now in
    let limits = g.met.S.ProblemSource.limits c.args.source.now in
    let w = fits p limits c.facts.ensures (rw c.steps.ensures c.copy_steps.ensures) c.start.ensures c.goal.ensures in
    record {
      some = w.some_fact;
      few_facts = w.few_facts;
      few_steps = omega (arith, limits.few_steps, c.steps.ensures);
      sized = c.copy_steps.array_long;
      start_in = w.start_in_range;
      goal_in = w.goal_in_range;
      goal_agrees = w.goal_agrees;
      needs_in = w.needs_in_range;
      makes_in = w.makes_in_range;
      needs_agree = w.needs_agree;
      makes_agree = w.makes_agree;
    }
