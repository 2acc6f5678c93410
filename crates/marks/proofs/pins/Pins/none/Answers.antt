use Rattle.std.proofs.Common.{Bool, cond, ap₂}
use Rattle.std.proofs.lemmas.Bool.{both_ways}
use Rattle.model.specs.Plans.{unpinned, take, leave}
use Rattle.marks.proofs.pins.Pins.none.Goals as goal

pub invariant_of-result : goal.invariant_of-result
invariant_of-result c = record { apart = λ t o h k. both_ways _ (c.none.ensures (record { time = t; step = o })).not_taken h }

pub returns : goal.returns
returns c t o = let u = c.none.ensures (record { time = t; step = o }) in
    ap₂ (λ (a b : Bool). cond a take (cond b leave unpinned)) u.not_taken u.not_left
