use Rattle.model.proofs.KeptHold.{kept_hold}
use Rattle.model.proofs.theorems.kept_hold_stands.Goals as goal

pub returns : goal.returns
returns c = kept_hold
