use Rattle.marks.proofs.Meaning.{seeds_bound}
use Rattle.marks.proofs.theorems.seeds_bound_stands.Goals as goal

pub returns : goal.returns
returns c = seeds_bound
