use Rattle.std.proofs.Common.{subst}
use Rattle.model.specs.declared.step.Step.{Step}
use Rattle.sources.specs.Rounds.{Widened}
use Rattle.sources.specs.Reaches.{round_none, round_more}
use Rattle.sources.proofs.reach.round.Goals as goal

pub loop-o-init : goal.loop-o-init
loop-o-init g c = round_none (g.S.ProblemSource.meaning c.args.source.now) c.args.reach

pub loop-o-preserved : goal.loop-o-preserved
loop-o-preserved g c =
    round_more (g.S.ProblemSource.meaning c.args.source.now) c.loop-o.o c.args.reach c.loop-o.wide c.widen-wide.result c.loop-o.invariant
    (subst (λ (s : Step). Widened c.loop-o.wide s c.widen-wide.result) c.step.ensures c.widen-wide.ensures)
