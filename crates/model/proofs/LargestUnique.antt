-- Two largest kept sets have the same clauses.
use Rattle.std.proofs.Common.{arith}
use Rattle.model.specs.Theorems.{LargestUnique}

pub largest_unique : LargestUnique
largest_unique p V W lv lw a b =
    let forth = lw.above V lv.kept a b in
    let back = lv.above W lw.kept a b in
    grind arith
