use Rattle.std.proofs.Common.{List, ltb, length, sym, ◌∙◌, ap}
use Rattle.sets.specs.declared.steps.StepSet.{StepSet}
use Rattle.marks.specs.Cells.{table_of}
use Rattle.marks.proofs.Empties.{no_step_past}
use Rattle.marks.proofs.cells.CellSides.has.Goals as goal

pub returns-in-None : goal.returns-in-None
returns-in-None c = sym (no_step_past (table_of c.args.self.now c.args.side) c.args.cell.time c.args.cell.step
    (c.in-None.ensures.lookup.0 ∙ ap (λ (table : List StepSet). ltb c.args.cell.time (length table)) c.on.ensures))
