use Rattle.std.proofs.Common.{◌≡◌}
use Rattle.search.specs.Looks.{asked}
use Rattle.search.proofs.tables.Search.rewind.Given as goal

abbrev pub invariant-loop : goal.invariant-loop
invariant-loop l = (asked l.self ≡ asked l.initial.self) × (l.self.plan ≡ l.initial.self.plan)

abbrev pub decreases-loop : goal.decreases-loop
decreases-loop l = l.self.path.depth
