use Rattle.std.proofs.Common.{◌-◌}
use Rattle.marks.specs.Rules.{Worked, Settled}
use Rattle.marks.proofs.tables.Marks.propagate.Given as goal

abbrev pub invariant-loop-self : goal.invariant-loop-self
invariant-loop-self l = Worked l.ix l.initial.self l.self × (Settled l.ix l.initial.self → Settled l.ix l.self)

abbrev pub decreases-loop-self : goal.decreases-loop-self
decreases-loop-self l = 10304 - l.self.head
