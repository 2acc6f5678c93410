use Rattle.std.proofs.Common.{◌≡◌, ◌&&◌, ltb}
use Rattle.sets.specs.Literals.{Literal, code}
use Rattle.sets.specs.Sets.{lit_in}
use Rattle.clauses.specs.Pairs.{rel}
use Rattle.clauses.proofs.pairs.Pairs.singles.Given as goal

abbrev pub invariant-loop-a : goal.invariant-loop-a
invariant-loop-a l = (x : Literal) → lit_in l.all x ≡ (rel l.self x x && ltb (code x) l.a)
