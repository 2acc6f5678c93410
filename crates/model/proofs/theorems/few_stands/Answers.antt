use Rattle.model.proofs.Crowding.{few}
use Rattle.model.proofs.theorems.few_stands.Goals as goal

pub returns : goal.returns
returns c = few
