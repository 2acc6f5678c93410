use Rattle.model.proofs.SpoiltGoes.{spoilt_goes}
use Rattle.model.proofs.theorems.spoilt_goes_stands.Goals as goal

pub returns : goal.returns
returns c = spoilt_goes
