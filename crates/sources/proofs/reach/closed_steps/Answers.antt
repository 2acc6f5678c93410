use Rattle.std.proofs.Common.{false, ◌<◌, ◌≤◌, rules, arith}
use Rattle.model.specs.Problems.{steps, step}
use Rattle.model.proofs.Made.{made_at}
use Rattle.sources.specs.Rounds.{Outside}
use Rattle.sources.specs.Reaches.{exact_from}
use Rattle.sources.proofs.reach.closed_steps.Goals as goal

pub returns : goal.returns
returns g c =
    let p = g.S.ProblemSource.meaning c.args.source.now in
    let few : steps p ≤ 256 = (g.met.S.ProblemSource.limits c.args.source.now).few_steps in
    exact_from p c.reach_set-reach.result c.from_fn.result c.reach_set-reach.ensures
    -- a call needs nothing of c, in which a search would read each of the 256 elements
    (λ o h. made_at _ (λ i y. i < c.steps-count.result → Outside (step p i) c.reach_set-reach.result y) _ (λ i y c k. search rules) c.from_fn.result 256 c.from_fn.ensures.items o false (omega (arith, few)) (omega (arith, h, c.steps-count.ensures)))
