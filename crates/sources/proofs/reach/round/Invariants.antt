use Rattle.sources.specs.Rounds.{Round}
use Rattle.sources.proofs.reach.round.Given as goal

abbrev pub invariant-loop-o : goal.invariant-loop-o
invariant-loop-o g l = Round (g.S.ProblemSource.meaning l.source) l.o l.initial.wide l.wide
