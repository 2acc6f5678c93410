use Rattle.std.proofs.lemmas.Bool.{both_ways}
use Rattle.model.specs.Tables.{LiteralsBelow}
use Rattle.sheet.specs.Empty.{none_in}
use Rattle.sheet.specs.Job.{JobStep}
use Rattle.sheet.specs.Stating.{at_all}
use Rattle.sheet.proofs.problem.SheetProblem.empty.Goals as goal

pub invariant_of-result-clause-needs_in : goal.invariant_of-result-clause-needs_in
invariant_of-result-clause-needs_in c =
    at_all (λ (s : JobStep). LiteralsBelow 0 s.needs) 256 c.new-step.result (λ l h. absurd (both_ways _ (c.new-step.ensures.needs l) h)) (λ l h. absurd (both_ways _ (none_in l) h))

pub invariant_of-result-clause-makes_in : goal.invariant_of-result-clause-makes_in
invariant_of-result-clause-makes_in c =
    at_all (λ (s : JobStep). LiteralsBelow 0 s.makes) 256 c.new-step.result (λ l h. absurd (both_ways _ (c.new-step.ensures.makes l) h)) (λ l h. absurd (both_ways _ (none_in l) h))
