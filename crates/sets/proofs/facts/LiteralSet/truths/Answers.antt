use Rattle.std.proofs.Common.{refl}
use Rattle.sets.specs.Sets.{lit_in}
use Rattle.sets.proofs.facts.LiteralSet.truths.Goals as goal

pub returns : goal.returns
unfolding lit_in
returns c = record { members = λ i. refl; value = refl }
