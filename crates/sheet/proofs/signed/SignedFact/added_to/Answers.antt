use Rattle.std.proofs.Common.{arith}
use Rattle.sheet.proofs.Joining.{with_true, with_false}
use Rattle.sheet.proofs.signed.SignedFact.added_to.Goals as goal

pub returns-then-self : goal.returns-then-self
returns-then-self c =
    with_false c.args.list _ c.args.self.fact c.args.self.negative c.if-self.true c.insert.ensures.members (c.insert.ensures.value (omega arith))

pub returns-else-self : goal.returns-else-self
returns-else-self c =
    with_true c.args.list _ c.args.self.fact c.args.self.negative c.if-self.false c.insert-else-self.ensures.members (c.insert-else-self.ensures.value (omega arith))
