use Rattle.std.proofs.Common.{sym, ◌∙◌}
use Rattle.sources.specs.Tables.{closing_steps}
use Rattle.sources.proofs.filter.ReachFilterProblemSource.steps.Goals as goal

pub returns : goal.returns
returns g c = c.steps.ensures ∙ sym (closing_steps (g.S.ProblemSource.meaning c.args.self.now.below) c.args.self.now.closed)
