use Rattle.std.proofs.Common.{Bool, not, ◌&&◌}
use Rattle.model.specs.declared.path.Side.TheVariants.{LeftOut, Taken}
use Rattle.std.proofs.Math.Bool.{and-true}
use Rattle.marks.proofs.Marking.{fact_changed, cell_changed}
use Rattle.marks.proofs.marked.Marked.strike.Goals as goal

pub returns-in-Fact : goal.returns-in-Fact
returns-in-Fact c = let k = c.args.self.now in fact_changed (λ (p q : Bool). q && not p) and-true
    k.facts c.strike_literal.new.table k.cells c.args.x c.in-Fact.t c.in-Fact.l c.in-Fact.is c.strike_literal.ensures

pub returns-in-Taken : goal.returns-in-Taken
returns-in-Taken c = let k = c.args.self.now in cell_changed (λ (p q : Bool). q && not p) and-true
    k.facts k.cells c.strike.new.self c.args.x Taken (record { time = c.in-Taken.time; step = c.in-Taken.step }) c.in-Taken.is c.strike.ensures

pub returns-in-LeftOut : goal.returns-in-LeftOut
returns-in-LeftOut c = let k = c.args.self.now in cell_changed (λ (p q : Bool). q && not p) and-true
    k.facts k.cells c.strike-in-LeftOut.new.self c.args.x LeftOut (record { time = c.in-LeftOut.time; step = c.in-LeftOut.step }) c.in-LeftOut.is c.strike-in-LeftOut.ensures
