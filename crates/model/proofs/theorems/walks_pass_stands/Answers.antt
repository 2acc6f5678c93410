use Rattle.model.proofs.Counting.{walks_pass}
use Rattle.model.proofs.theorems.walks_pass_stands.Goals as goal

pub returns : goal.returns
returns c = walks_pass
