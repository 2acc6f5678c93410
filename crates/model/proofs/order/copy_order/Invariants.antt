use Rattle.model.specs.Rankings.{Sofar}
use Rattle.model.proofs.order.copy_order.Given as goal

abbrev pub invariant-loop-place : goal.invariant-loop-place
invariant-loop-place g l = Sofar (g.R.Ranking.order l.ranking) l.times l.steps l.place l.initial.cell-items l.cell-items
