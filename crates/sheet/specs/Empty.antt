-- The empty set of literals has no member.
use Rattle.std.specs.Prelude.{◌≡◌, ℕ, ◌%◌, ◌^◌, false, nat_eq}
use Rattle.std.proofs.Common.{ap}
use Rattle.std.proofs.Math.Nat.{zero-div}
use Rattle.sets.specs.Has.{has}
use Rattle.sets.specs.Literals.{Literal, pos, neg}
use Rattle.sets.specs.Sets.{fact_in, lit_in, no_literals}

nothing : (f : ℕ) → has 0 f ≡ false
unfolding has
nothing f = ap (λ (n : ℕ). nat_eq (n % 2) 1) (zero-div (2 ^ f))

pub none_in : (l : Literal) → lit_in no_literals l ≡ false
unfolding lit_in fact_in
none_in (pos f) = nothing f
none_in (neg f) = nothing f
