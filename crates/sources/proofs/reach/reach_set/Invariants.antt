use Rattle.std.proofs.Common.{◌-◌, ◌^◌}
use Rattle.sets.specs.Sets.{weight}
use Rattle.sources.specs.Rounds.{Within, Sound}
use Rattle.sources.proofs.reach.reach_set.Given as goal

abbrev pub invariant-loop-wide : goal.invariant-loop-wide
invariant-loop-wide g l = Sound (g.S.ProblemSource.meaning l.source) l.reach × Within l.initial.reach l.reach

abbrev pub decreases-loop-wide : goal.decreases-loop-wide
decreases-loop-wide g l = 2 ^ 65 - weight l.reach
