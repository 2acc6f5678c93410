use Rattle.model.proofs.FirstPlan.{ends_first}
use Rattle.model.proofs.theorems.ends_first_stands.Goals as goal

pub returns : goal.returns
returns c = ends_first
