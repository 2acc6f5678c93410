use Rattle.std.proofs.Common.{◌*◌, ◌≤◌, ◌++◌, length, drop, arith}
use Rattle.std.proofs.lemmas.List.{length-take-le}
use Rattle.model.proofs.Copies.{each_once, copied_front}
use Rattle.model.proofs.order.copy_order.Goals as goal

pub returns-clause-copied : goal.returns-clause-copied
returns-clause-copied g c =
    let n = c.args.times * c.args.steps in
    let room : n ≤ length c.args.table.now = c.if-places-table.false in
    let long = length-take-le n c.args.table.now room in
    copied_front (g.R.Ranking.order c.args.ranking.now) c.args.times c.args.steps c.loop-place.cell-items c.args.table.now
    (omega (arith, long, c.loop-place.auto.cell-items)) room (λ p h. c.loop-place.invariant.holds p (omega (arith, long, c.loop-place-test.false)))

pub returns-clause-once : goal.returns-clause-once
returns-clause-once g c =
    each_once (g.R.Ranking.order c.args.ranking.now) (g.met.R.Ranking.undo c.args.ranking.now) _ _ (record { short = c.if-times-gt32.false; few = c.if-steps-gt256.false })
    c.args.table.now (c.loop-place.cell-items ++ drop (c.args.times * c.args.steps) c.args.table.now) (returns-clause-copied g c)
