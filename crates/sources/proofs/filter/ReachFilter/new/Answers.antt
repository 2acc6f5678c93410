use Rattle.sources.specs.Reach.{closing}
use Rattle.sources.specs.Reaches.{filters_from, filters_same}
use Rattle.sources.proofs.SamePlans.{filter_keeps_plans}
use Rattle.sources.proofs.filter.ReachFilter.new.Goals as goal

pub returns-clause-filters : goal.returns-clause-filters
returns-clause-filters g c = filters_from (g.S.ProblemSource.meaning c.args.below) c.closed_steps-closed.result c.closed_steps-closed.ensures

pub returns-clause-only : goal.returns-clause-only
returns-clause-only g c q f =
    let p = g.S.ProblemSource.meaning c.args.below in
    let table = c.closed_steps-closed.result in
    filters_same p q (closing p table) f (filters_from p table c.closed_steps-closed.ensures)

pub returns-clause-plans : goal.returns-clause-plans
returns-clause-plans g c =
    let p = g.S.ProblemSource.meaning c.args.below in
    let table = c.closed_steps-closed.result in
    filter_keeps_plans p (closing p table) (g.met.S.ProblemSource.limits c.args.below) (filters_from p table c.closed_steps-closed.ensures)
