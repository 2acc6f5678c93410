use Rattle.std.proofs.Common.{take}
use Rattle.planner.specs.Carried.{CarriedSofar}
use Rattle.planner.proofs.tables.Planner.carry_out.Given as goal

abbrev pub invariant-loop-i : goal.invariant-loop-i
invariant-loop-i g l = CarriedSofar (g.S.ProblemSource.meaning l.source) (g.R.Ranking.order l.ranking) l.initial.self (take l.count l.calls) l.initial.answers l.answers l.i l.initial.out l.self l.out
