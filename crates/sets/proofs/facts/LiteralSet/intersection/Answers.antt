use Rattle.std.proofs.Common.{◌≡◌, ◌<◌, true, ◌&&◌, arith}
use Rattle.sets.specs.Literals.{Literal, pos, neg, code}
use Rattle.sets.specs.Sets.{lit_in}
use Rattle.sets.specs.declared.facts.LiteralSet.{LiteralSet}
use Rattle.sets.proofs.facts.LiteralSet.intersection.Goals as goal

pub returns : goal.returns
unfolding lit_in code
returns c = record { members = all; narrow = few }
  where
    r : LiteralSet
    r = record { truths = c.intersection.result; falsities = c.intersection-2.result }

    all : (l : Literal) → lit_in r l ≡ (lit_in c.args.self l && lit_in c.args.other l)
    all (pos i) = c.intersection.ensures.members i
    all (neg i) = c.intersection-2.ensures.members i

    few : (l : Literal) → lit_in r l ≡ true → code l < 128
    few (pos i) h = omega (arith, c.intersection.ensures.narrow i h)
    few (neg i) h = omega (arith, c.intersection-2.ensures.narrow i h)
