use Rattle.model.proofs.Counting.{walks_join}
use Rattle.model.proofs.theorems.walks_join_stands.Goals as goal

pub returns : goal.returns
returns c = walks_join
