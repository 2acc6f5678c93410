use Rattle.model.specs.Held.{problem_of}
use Rattle.clauses.specs.Waiting.{kept_in}
use Rattle.search.proofs.Beginnings.{opens, means_kept}
use Rattle.search.proofs.tables.Search.new.Goals as goal

pub invariant_of-result-clause-sound : goal.invariant_of-result-clause-sound
invariant_of-result-clause-sound c =
    opens c.empty-problem.result c.make.ensures.largest
    (means_kept c.build.new.self (problem_of c.empty-problem.result) c.rows.result (kept_in c.make.new.self) c.rows.ensures c.build.ensures)
    c.none-pins.ensures c.work_out-root.ensures.begun c.work_out-root.ensures.cells c.empty.ensures
