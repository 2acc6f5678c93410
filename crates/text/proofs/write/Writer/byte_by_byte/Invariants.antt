use Rattle.std.proofs.Common.{take}
use Rattle.text.specs.Writers.{Writes}
use Rattle.text.proofs.write.Writer.byte_by_byte.Given as goal

abbrev pub invariant-loop-b : goal.invariant-loop-b
invariant-loop-b l = Writes (take l.b-index l.text) l.initial.self l.self
