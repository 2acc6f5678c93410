use Rattle.std.proofs.Common.{refl, inr}
use Rattle.model.specs.Problems.{steps}
use Rattle.model.specs.Plans.{unpinned}
use Rattle.model.specs.Held.{problem_of}
use Rattle.marks.specs.Pinning.{pins_of}
use Rattle.search.proofs.Beginnings.{pins_anew, range_now, range_with}
use Rattle.search.proofs.tables.Search.unpin.Goals as goal

pub invariant_of-self-clause-sound : goal.invariant_of-self-clause-sound
invariant_of-self-clause-sound c =
    let s = c.args.self.now in
    pins_anew s
    (range_with (pins_of s.pins) (pins_of c.clear.new.self) s.length (steps (problem_of s.problem)) c.args.cell unpinned (inr refl) (range_now s) c.clear.ensures)
    c.work_out-self.ensures.begun c.work_out-self.ensures.cells c.clear-2.ensures
