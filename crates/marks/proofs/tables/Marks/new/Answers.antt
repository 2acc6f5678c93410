use Rattle.std.proofs.Common.{replicate}
use Rattle.marks.specs.declared.mark.Mark.TheVariants.{Fact}
use Rattle.marks.proofs.Empties.{listed_none}
use Rattle.marks.proofs.tables.Marks.new.Goals as goal

pub invariant_of-result-clause-listed : goal.invariant_of-result-clause-listed
invariant_of-result-clause-listed c = listed_none c.none.result c.none.ensures (replicate 10304 (Fact 0 0))
