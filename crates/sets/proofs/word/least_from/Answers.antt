use Rattle.sets.proofs.Bits.{none_from, least_from}
use Rattle.std.proofs.Common.{arith}
use Rattle.sets.proofs.word.least_from.Goals as goal

pub returns-then-rest-eq0 : goal.returns-then-rest-eq0
returns-then-rest-eq0 c = none_from c.args.word c.args.from c.if-rest-eq0.true

pub returns-else-rest-eq0 : goal.returns-else-rest-eq0
returns-else-rest-eq0 c = least_from 64 c.args.word c.args.from (omega arith) (omega arith)
