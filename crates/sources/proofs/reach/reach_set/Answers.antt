use Rattle.std.proofs.Common.{arith}
use Rattle.sets.specs.Sets.{weight, bulk}
use Rattle.sources.specs.Reaches.{start_sound, reach_done, subset_yes, subset_no}
use Rattle.sources.proofs.reach.reach_set.Goals as goal

pub loop-wide-init : goal.loop-wide-init
loop-wide-init g c =
    (start_sound (g.S.ProblemSource.meaning c.args.source.now) c.start_literals-reach.result c.start_literals-reach.ensures, λ l h. h)

pub loop-wide-smaller : goal.loop-wide-smaller
unfolding weight bulk
loop-wide-smaller g c =
    let l = subset_no c.round-wide.result c.loop-wide.reach c.subset.result c.subset.ensures c.if-subset.false in
    let up = c.round-wide.ensures.rises l.0 l.1 l.2 in
    omega (arith, up)

pub returns-then-subset : goal.returns-then-subset
returns-then-subset g c =
    reach_done (g.S.ProblemSource.meaning c.args.source.now) c.start_literals-reach.result c.loop-wide.reach c.round-wide.result
    c.start_literals-reach.ensures c.loop-wide.invariant.1 c.loop-wide.invariant.0 c.round-wide.ensures
    (subset_yes c.round-wide.result c.loop-wide.reach c.subset.result c.subset.ensures c.if-subset.true)
