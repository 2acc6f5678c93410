use Rattle.std.proofs.Common.{refl, arith}
use Rattle.model.specs.Problems.{empty_problem}
use Rattle.model.proofs.Fitting.{fits, same_problem, empty_well_formed}
use Rattle.model.proofs.table.ProblemTable.empty.Goals as goal

pub invariant_of-result : goal.invariant_of-result
invariant_of-result c =
    let w = fits empty_problem empty_well_formed refl refl c.empty.ensures.value c.empty-2.ensures.value in
    record {
      some = w.some_fact;
      few_facts = w.few_facts;
      few_steps = omega arith;
      sized = refl;
      start_in = w.start_in_range;
      goal_in = w.goal_in_range;
      goal_agrees = w.goal_agrees;
      needs_in = w.needs_in_range;
      makes_in = w.makes_in_range;
      needs_agree = w.needs_agree;
      makes_agree = w.makes_agree;
    }

pub returns : goal.returns
returns c = same_problem refl refl c.empty.ensures.value c.empty-2.ensures.value
