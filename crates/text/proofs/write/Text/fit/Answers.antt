use Rattle.std.proofs.Common.{rules, refl, arith}
use Rattle.text.proofs.Writing.{too_few, stands}
use Rattle.text.proofs.write.Text.fit.Goals as goal

pub returns-then-measure-out : goal.returns-then-measure-out
returns-then-measure-out g c = too_few refl c.write.ensures (omega arith)

pub returns : goal.returns
returns g c = stands refl c.write.ensures (omega arith) (omega arith) refl refl c.write-2.ensures refl (search rules)
