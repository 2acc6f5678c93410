use Rattle.std.proofs.Common.{arith, below_more}
use Rattle.model.specs.Held.{problem_of}
use Rattle.clauses.specs.Waiting.{Visited, Due}
use Rattle.clauses.proofs.Waits.{moved_more, visited_more, visited_here}
use Rattle.clauses.proofs.record.ClauseRecord.sweep.Goals as goal

pub loop-o-preserved : goal.loop-o-preserved
loop-o-preserved c =
    let p = problem_of c.args.problem.now in
    let r = c.args.self.now in
    let s = c.loop-o.self in
    let t = c.visit.new.self in
    let inv = c.loop-o.invariant in
    let e = c.visit.ensures in (
      moved_more p r s t inv.0 e.moved,
      below_more (λ o. Visited p r t o (Due p o c.args.touched)) c.loop-o.o (λ o l. visited_more p r s t o (Due p o c.args.touched) e.moved (inv.1 o l))
          (visited_here p r s t c.loop-o.o (Due p c.loop-o.o c.args.touched) inv.0 e.moved e.here),
    )

pub returns-clause-here : goal.returns-clause-here
returns-clause-here c o l = c.loop-o.invariant.1 o (omega (arith, c.steps-o-end.ensures))
