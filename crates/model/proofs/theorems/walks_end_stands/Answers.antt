use Rattle.model.proofs.Counting.{walks_end}
use Rattle.model.proofs.theorems.walks_end_stands.Goals as goal

pub returns : goal.returns
returns c = walks_end
