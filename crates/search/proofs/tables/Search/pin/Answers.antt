use Rattle.std.proofs.Common.{inl}
use Rattle.model.specs.Problems.{steps}
use Rattle.model.specs.Held.{problem_of}
use Rattle.marks.specs.Pinning.{pins_of, pin_of}
use Rattle.search.proofs.Beginnings.{pins_anew, range_now, range_with}
use Rattle.search.proofs.tables.Search.pin.Goals as goal

pub invariant_of-self-clause-sound : goal.invariant_of-self-clause-sound
invariant_of-self-clause-sound c =
    let s = c.args.self.now in
    pins_anew s
    (range_with (pins_of s.pins) (pins_of c.set.new.self) s.length (steps (problem_of s.problem)) c.args.cell (pin_of c.args.side) (inl c.requires) (range_now s) c.set.ensures)
    c.work_out-self.ensures.begun c.work_out-self.ensures.cells c.clear.ensures
