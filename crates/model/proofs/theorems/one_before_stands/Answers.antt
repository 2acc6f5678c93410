use Rattle.model.proofs.FirstPlan.{one_before}
use Rattle.model.proofs.theorems.one_before_stands.Goals as goal

pub returns : goal.returns
returns c = one_before
