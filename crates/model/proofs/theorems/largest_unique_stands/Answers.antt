use Rattle.model.proofs.LargestUnique.{largest_unique}
use Rattle.model.proofs.theorems.largest_unique_stands.Goals as goal

pub returns : goal.returns
returns c = largest_unique
