use Rattle.model.proofs.FirstPlan.{ranked_ordered}
use Rattle.model.proofs.theorems.ranked_ordered_stands.Goals as goal

pub returns : goal.returns
returns c = ranked_ordered
