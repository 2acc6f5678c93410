use Rattle.model.proofs.Counting.{adding_passes_one}
use Rattle.model.proofs.theorems.adding_passes_one_stands.Goals as goal

pub returns : goal.returns
returns c = adding_passes_one
