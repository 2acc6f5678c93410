use Rattle.model.specs.Held.{problem_of}
use Rattle.clauses.proofs.Waits.{moved_after, here_after}
use Rattle.clauses.proofs.record.ClauseRecord.visit.Goals as goal

pub returns-then-concerns : goal.returns-then-concerns
returns-then-concerns c =
    let p = problem_of c.args.problem.now in
    let o = c.args.o in
    let r = c.args.self.now in
    let t = c.examine.new.self in
    let e = c.examine.ensures in
    record { moved = moved_after p o r t e.struck; here = λ q n h. here_after p o r t e.struck e.settled q n }
