use Rattle.model.proofs.Counting.{turning_passes}
use Rattle.model.proofs.theorems.turning_passes_stands.Goals as goal

pub returns : goal.returns
returns c = turning_passes
