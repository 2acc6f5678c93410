use Rattle.marks.proofs.Meaning.{rest_closed}
use Rattle.marks.proofs.theorems.rest_closed_stands.Goals as goal

pub returns : goal.returns
returns c = rest_closed
