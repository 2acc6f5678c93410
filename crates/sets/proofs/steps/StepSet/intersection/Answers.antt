use Rattle.sets.specs.Sets.{step_in}
use Rattle.sets.proofs.Words.{words_intersection}
use Rattle.std.proofs.Common.{arith}
use Rattle.sets.proofs.steps.StepSet.intersection.Goals as goal

pub returns : goal.returns
unfolding step_in
returns c i = words_intersection c.args.self.words c.args.other.words (omega arith) (omega arith) i
