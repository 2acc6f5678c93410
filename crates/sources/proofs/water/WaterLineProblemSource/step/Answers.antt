use Rattle.std.proofs.Common.{◌+◌, ◌*◌, ◌<◌, ◌≤◌, sym, ◌∙◌, arith}
use Rattle.model.specs.Problems.{closed_step}
use Rattle.sources.specs.Water.{water_step}
use Rattle.sources.specs.Tables.{length_tabulate, tabulate_within, tabulate_past}
use Rattle.sources.proofs.water.WaterLineProblemSource.step.Goals as goal

pub row-requires : goal.row-requires
row-requires c = let k = c.args.self.now.meters in omega (arith, length_tabulate (2 + 7 * k) (water_step k), c.steps.ensures)

pub returns-then-number-steps : goal.returns-then-number-steps
returns-then-number-steps c =
    let k = c.args.self.now.meters in
    let within : c.args.number < 2 + 7 * k = omega (arith, length_tabulate (2 + 7 * k) (water_step k), c.steps.ensures) in
    c.row.ensures ∙ sym (tabulate_within (2 + 7 * k) (water_step k) c.args.number closed_step within)

pub returns-else-number-steps : goal.returns-else-number-steps
returns-else-number-steps c =
    let k = c.args.self.now.meters in
    let past : 2 + 7 * k ≤ c.args.number = omega (arith, length_tabulate (2 + 7 * k) (water_step k), c.steps.ensures) in
    c.closed.ensures ∙ sym (tabulate_past (2 + 7 * k) (water_step k) c.args.number closed_step past)
