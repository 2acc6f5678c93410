use Rattle.std.proofs.Common.{refl}
use Rattle.model.specs.Held.{problem_of}
use Rattle.clauses.proofs.Waits.{ready_round, falls_round}
use Rattle.clauses.proofs.record.ClauseRecord.round.Goals as goal

pub returns-clause-ready : goal.returns-clause-ready
returns-clause-ready c =
    let table = c.args.problem.now in
    ready_round (problem_of table) c.args.self.now _ c.sweep.new.self c.gather-touched.result table.few_facts table.needs_in
    c.gather-touched.ensures refl c.sweep.ensures.moved c.sweep.ensures.here

pub returns-clause-falls : goal.returns-clause-falls
returns-clause-falls c _ =
    falls_round (problem_of c.args.problem.now) c.args.self.now _ c.sweep.new.self refl c.gather-touched.ensures.none c.if-idle.ensures c.sweep.ensures.moved
