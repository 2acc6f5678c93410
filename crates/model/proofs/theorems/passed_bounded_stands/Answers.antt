use Rattle.model.proofs.Counting.{passed_bounded}
use Rattle.model.proofs.theorems.passed_bounded_stands.Goals as goal

pub returns : goal.returns
returns c = passed_bounded
