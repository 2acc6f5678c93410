use Rattle.std.proofs.Common.{arith}
use Rattle.text.proofs.Writing.{digit, digits}
use Rattle.text.proofs.write.Writer.+number.Goals.{then-n-ge10, else-n-ge10}
use Rattle.text.proofs.write.Writer.+number.Goals as goal

pub returns : goal.returns
returns t c =
    elim c.if-n-ge10.branch [
      | then-n-ge10 w ↦ digits c.args.n w.if-n-ge10.true (omega arith) w.number.ensures w.self-is c.byte.ensures
      | else-n-ge10 w ↦ digit c.args.n w.if-n-ge10.false w.self-is c.byte.ensures
    ]
