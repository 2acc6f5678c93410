use Rattle.std.proofs.Common.{sym, ◌∙◌}
use Rattle.clauses.proofs.Laws.{row_of, row_past}
use Rattle.clauses.proofs.pairs.Pairs.row.Goals as goal

pub returns-then-a-lt128 : goal.returns-then-a-lt128
returns-then-a-lt128 c l = row_of c.args.self.now c.args.a l

pub returns-else-a-lt128 : goal.returns-else-a-lt128
returns-else-a-lt128 c l = c.empty.ensures.members l ∙ sym (row_past c.args.self.now c.args.a c.if-a-lt128.false l)
