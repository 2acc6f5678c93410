use Rattle.std.proofs.Common.{◌+◌, ◌*◌, sym}
use Rattle.sources.specs.Water.{water_step}
use Rattle.sources.specs.Tables.{length_tabulate}
use Rattle.sources.proofs.water.WaterLineProblemSource.steps.Goals as goal

pub returns : goal.returns
returns c = let k = c.args.self.now.meters in sym (length_tabulate (2 + 7 * k) (water_step k))
