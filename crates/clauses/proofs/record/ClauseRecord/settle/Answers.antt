use Rattle.model.specs.Held.{problem_of}
use Rattle.clauses.specs.Waiting.{kept_in}
use Rattle.clauses.proofs.Theory.{largest, settled_all}
use Rattle.clauses.proofs.Waits.{none_held}
use Rattle.clauses.proofs.record.ClauseRecord.settle.Goals as goal

pub returns-clause-largest : goal.returns-clause-largest
returns-clause-largest c k =
    let p = problem_of c.args.problem.now in
    let t = c.round.new.self in
    let e = c.round.ensures in
    let done = e.ends c.loop-test.false in
    let k' = e.ready (c.loop.invariant.1 k) in
    largest p (kept_in t) k'.good (settled_all p (kept_in t) (λ o l. k'.awaits o l done.1 (λ x y h look. none_held t.waiting done.0 x y h)))
