use Rattle.std.proofs.Common.{◌^◌, ◌<◌, arith}
use lib.Bits.{bit_and, and_le_l}
use Rattle.sets.specs.Sets.{fact_in}
use Rattle.sets.proofs.Bits.{has_and, has_inside}
use Rattle.sets.proofs.facts.FactSet.intersection.Goals as goal

pub returns : goal.returns
unfolding fact_in
returns c =
    let a = c.args.self.bits in
    let b = c.args.other.bits in
    let small : bit_and a b < 2 ^ 64 = omega (arith, and_le_l a b) in
    record { members = has_and a b; narrow = λ i. has_inside (bit_and a b) 64 i small }
