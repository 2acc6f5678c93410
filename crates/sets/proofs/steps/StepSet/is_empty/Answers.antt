use Rattle.sets.specs.Sets.{step_in}
use Rattle.sets.proofs.Words.{words_zero}
use Rattle.std.proofs.Common.{arith}
use Rattle.sets.proofs.steps.StepSet.is_empty.Goals as goal

pub returns : goal.returns
unfolding step_in
returns c = words_zero c.args.self.now.words (omega arith) (omega arith) (omega arith) (omega arith) (omega arith)
