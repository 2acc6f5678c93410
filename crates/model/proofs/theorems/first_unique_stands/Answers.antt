use Rattle.model.proofs.FirstPlan.{first_unique}
use Rattle.model.proofs.theorems.first_unique_stands.Goals as goal

pub returns : goal.returns
returns c = first_unique
