use Rattle.sets.specs.Literals.{code}
use Rattle.clauses.specs.Pairs.{rel}
use Rattle.clauses.proofs.Laws.{no_pairs}
use Rattle.clauses.proofs.pairs.Pairs.empty.Goals as goal

pub returns : goal.returns
unfolding rel
returns c a b = no_pairs 128 (code a) c.empty.result c.empty.ensures.value b
