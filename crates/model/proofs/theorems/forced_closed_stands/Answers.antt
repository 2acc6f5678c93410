use Rattle.model.proofs.Least.{forced_closed}
use Rattle.model.proofs.theorems.forced_closed_stands.Goals as goal

pub returns : goal.returns
returns c = forced_closed
