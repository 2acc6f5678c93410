use Rattle.model.proofs.Backtrack.{backtracking}
use Rattle.model.proofs.theorems.backtracking_stands.Goals as goal

pub returns : goal.returns
returns c = backtracking
