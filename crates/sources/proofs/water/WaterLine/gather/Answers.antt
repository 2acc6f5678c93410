use Rattle.std.proofs.Common.{refl}
use Rattle.sources.specs.Tables.{gathers_more}
use Rattle.sources.proofs.water.WaterLine.gather.Goals as goal

pub loop-number-preserved : goal.loop-number-preserved
loop-number-preserved g c = gathers_more _ c.loop-number.number _ c.loop-number.all _ c.loop-number.invariant (_, refl, c.add-all.ensures)
