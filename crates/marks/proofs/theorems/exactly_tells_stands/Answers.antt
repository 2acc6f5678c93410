use Rattle.marks.proofs.Meaning.{exactly_tells}
use Rattle.marks.proofs.theorems.exactly_tells_stands.Goals as goal

pub returns : goal.returns
returns c = exactly_tells
