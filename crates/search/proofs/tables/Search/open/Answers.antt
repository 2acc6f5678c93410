use Rattle.model.specs.Held.{problem_of}
use Rattle.clauses.specs.Waiting.{kept_in}
use Rattle.search.proofs.Beginnings.{opens, means_kept}
use Rattle.search.proofs.tables.Search.open.Goals as goal

pub invariant_of-self-clause-sound : goal.invariant_of-self-clause-sound
invariant_of-self-clause-sound g c =
    opens c.of-self.result c.make.ensures.largest
    (means_kept c.build.new.self (problem_of c.of-self.result) c.rows-rows.result (kept_in c.make.new.self) c.rows-rows.ensures c.build.ensures)
    c.none-self.ensures c.work_out-self.ensures.begun c.work_out-self.ensures.cells c.clear.ensures
