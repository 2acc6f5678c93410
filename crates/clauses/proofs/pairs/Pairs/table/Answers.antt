use Rattle.std.proofs.Common.{refl}
use Rattle.clauses.specs.Pairs.{rel}
use Rattle.clauses.proofs.pairs.Pairs.table.Goals as goal

pub returns : goal.returns
unfolding rel
returns c a b = refl
