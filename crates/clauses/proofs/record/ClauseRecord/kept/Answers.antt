use Rattle.std.proofs.Common.{arith}
use Rattle.std.proofs.lemmas.Bool.Decides.{nat_tests}
use Rattle.clauses.proofs.Laws.{fact_lit}
use Rattle.clauses.proofs.record.ClauseRecord.kept.Goals as goal
use Rattle.clauses.proofs.record.ClauseRecord.kept.Goals.{else-a-self-via-then-a-self+else-b-self, else-a-self-via-else-a-self}

pub returns-then-b-self : goal.returns-then-b-self
returns-then-b-self c =
    let a = fact_lit c.args.a in
    let b = fact_lit c.args.b in
    grind (arith, nat_tests)

pub returns-else-a-self : goal.returns-else-a-self
returns-else-a-self c =
    let a = fact_lit c.args.a in
    let b = fact_lit c.args.b in
    elim c.else-a-self.branch [
      | else-a-self-via-then-a-self+else-b-self w ↦ grind (arith, nat_tests)
      | else-a-self-via-else-a-self w ↦ grind (arith, nat_tests)
    ]
