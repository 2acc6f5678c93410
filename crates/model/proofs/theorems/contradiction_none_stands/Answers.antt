use Rattle.model.proofs.ContradictionNone.{contradiction_none}
use Rattle.model.proofs.theorems.contradiction_none_stands.Goals as goal

pub returns : goal.returns
returns c = contradiction_none
