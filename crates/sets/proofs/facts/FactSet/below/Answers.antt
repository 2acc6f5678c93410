use Rattle.std.proofs.Common.{◌≡◌, ℕ, ◌-◌, ◌<◌, ◌≤◌, ◌&&◌, ltb, ap, ◌∙◌, arith}
use Rattle.std.proofs.lemmas.Nat.{one_shl}
use Rattle.std.proofs.lemmas.Bool.Decides.{nat_tests}
use Rattle.sets.specs.Has.{has}
use Rattle.sets.specs.Sets.{fact_in}
use Rattle.sets.proofs.Bits.{has_low}
use Rattle.sets.proofs.facts.FactSet.below.Goals as goal

few : (i n : ℕ) → n < 64 → ltb i n ≡ (ltb i n && ltb i 64)
few i n h = grind (arith, nat_tests)

all : (i n : ℕ) → 64 ≤ n → ltb i 64 ≡ (ltb i n && ltb i 64)
all i n h = grind (arith, nat_tests)

pub returns-then-n-lt64 : goal.returns-then-n-lt64
unfolding fact_in
returns-then-n-lt64 c i =
    let n = c.args.n in
    ap (λ (x : ℕ). has (x - 1) i) (one_shl n 64 (omega arith)) ∙ has_low n i ∙ few i n (omega arith)

pub returns-else-n-lt64 : goal.returns-else-n-lt64
unfolding fact_in
returns-else-n-lt64 c i = has_low 64 i ∙ all i c.args.n (omega arith)
