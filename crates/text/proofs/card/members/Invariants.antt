use Rattle.std.proofs.Common.{◌-◌, ◌≤◌}
use Rattle.sets.specs.Sets.{step_in}
use Rattle.text.specs.Writers.{Writes}
use Rattle.text.specs.Cards.{steps_up_to}
use Rattle.text.proofs.card.members.Given as goal

abbrev pub invariant-loop-o : goal.invariant-loop-o
invariant-loop-o l = Writes (steps_up_to (step_in l.set) l.from) l.initial.writer l.writer × (l.from ≤ l.count) × (l.from ≤ 256)

abbrev pub decreases-loop-o : goal.decreases-loop-o
decreases-loop-o l = 256 - l.from
