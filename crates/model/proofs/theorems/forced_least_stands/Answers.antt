use Rattle.model.proofs.Least.{forced_least}
use Rattle.model.proofs.theorems.forced_least_stands.Goals as goal

pub returns : goal.returns
returns c = forced_least
