use Rattle.marks.proofs.Empties.{listed_none}
use Rattle.marks.proofs.tables.Marks.wipe.Goals as goal

pub invariant_of-self-clause-listed : goal.invariant_of-self-clause-listed
invariant_of-self-clause-listed c = listed_none c.none-self.result c.none-self.ensures c.args.self.now.trail
