use Rattle.std.proofs.Common.{◌≡◌}
use Rattle.sources.specs.Listed.{Gathers}
use Rattle.sources.proofs.water.WaterLine.gather.Given as goal

abbrev pub invariant-loop-number : goal.invariant-loop-number
invariant-loop-number g l = Gathers (λ j a b. (m : _) × (m.number ≡ j) × goal.F-post g l.add a m b) l.number l.initial.all l.all
