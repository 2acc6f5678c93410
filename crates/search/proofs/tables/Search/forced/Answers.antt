use Rattle.std.proofs.Common.{subst}
use Rattle.marks.specs.Cells.{CellsOf}
use Rattle.search.proofs.Forcing.{forced_says, told_contradiction, told_taken, told_left, told_neither}
use Rattle.search.proofs.tables.Search.forced.Goals as goal

pub returns-in_default : goal.returns-in_default
returns-in_default c = forced_says c.args.self.now c.args.cell 3 (λ V m tells same. told_contradiction c.args.cell tells (subst (CellsOf m) c.in_default.is same))

pub returns-in-Some-Taken : goal.returns-in-Some-Taken
returns-in-Some-Taken c = forced_says c.args.self.now c.args.cell 1
    (λ V m tells same. told_taken c.args.cell tells c.in-Some.cells (subst (CellsOf m) c.in-Some.is same) (rw c.in-Some-Taken.field-0-is at c.in-Some-Taken.ensures))

pub returns-in-Some-LeftOut : goal.returns-in-Some-LeftOut
returns-in-Some-LeftOut c = forced_says c.args.self.now c.args.cell 2
    (λ V m tells same. told_left c.args.cell tells c.in-Some.cells (subst (CellsOf m) c.in-Some.is same) (rw c.in-Some-LeftOut.field-0-is at c.in-Some-LeftOut.ensures))

pub returns-in-None : goal.returns-in-None
returns-in-None c = forced_says c.args.self.now c.args.cell 0
    (λ V m tells same. told_neither c.args.cell tells c.in-Some.cells (subst (CellsOf m) c.in-Some.is same) c.in-None.ensures)
