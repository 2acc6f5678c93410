use Rattle.std.proofs.Common.{arith}
use Rattle.sets.specs.Sets.{step_in}
use Rattle.text.proofs.Lines.{steps_more, steps_all}
use Rattle.text.proofs.card.members.Goals as goal

pub loop-o-preserved : goal.loop-o-preserved
loop-o-preserved c =
    let found = c.in-Some.ensures in (
      steps_more (step_in c.args.set.now) c.loop-o.from c.in-Some.o found.0 found.3 found.2 c.loop-o.invariant.0 c.step.ensures,
      omega (arith, found.1),
      omega (arith, found.1),
    )

pub returns-then-o-count : goal.returns-then-o-count
returns-then-o-count c =
    let found = c.in-Some.ensures in
    steps_all (step_in c.args.set.now) c.loop-o.from c.args.count c.loop-o.invariant.1 (λ i from below. found.3 i from (omega arith)) c.loop-o.invariant.0

pub returns-in_default : goal.returns-in_default
returns-in_default c =
    steps_all (step_in c.args.set.now) c.loop-o.from c.args.count c.loop-o.invariant.1 (λ i from below. c.in_default.ensures i from) c.loop-o.invariant.0
