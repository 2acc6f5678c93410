use Rattle.std.proofs.Common.{arith}
use Rattle.sets.specs.Sets.{fact_in}
use Rattle.sets.proofs.Bits.{has_above}
use Rattle.sets.proofs.facts.FactSet.next_from.Goals as goal

pub returns-then-from-lt64 : goal.returns-then-from-lt64
unfolding fact_in
returns-then-from-lt64 c = c.least_from.ensures

pub returns-else-from-lt64 : goal.returns-else-from-lt64
unfolding fact_in
returns-else-from-lt64 c i l = has_above c.args.self.bits 64 i (omega arith) (omega arith)
