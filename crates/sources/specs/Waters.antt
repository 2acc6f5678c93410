-- The water line is within the limits for 1 to 8 meters, and its steps are found by quotient and remainder.
use Rattle.std.specs.Prelude.{◌≡◌, ℕ, zero, suc, ◌+◌, ◌-◌, ◌*◌, ◌/◌, ◌%◌, ◌≤◌, true, List, ◌∷◌, get_or, ◌≢◌, slice_index_or, refl}
use Rattle.std.proofs.Common.{ap, arith}
use Rattle.sets.specs.Literals.{Literal, pos, neg, lit, code}
use Rattle.sets.specs.Sets.{with_fact, with_literal}
use Rattle.sets.specs.declared.facts.FactSet.{FactSet}
use Rattle.sets.specs.declared.facts.LiteralSet.{LiteralSet}
use Rattle.model.specs.Problems.{WellFormed, closed_step}
use Rattle.sources.specs.Listed.{facts_of, literals_of}
use Rattle.sources.specs.Water.{line_open, is, at_first, wanted, water_step, meter_steps, water_line}
use Rattle.sets.proofs.Literals.{lit_code}
use Rattle.sources.specs.Tested.{well?, well_from}

passes : (k : ℕ) → 1 ≤ k → k ≤ 8 → well? (1 + 7 * k) (2 + 7 * k) (water_step k) (facts_of (line_open ∷ at_first k)) (literals_of (is line_open ∷ wanted k)) ≡ true
unfolding with_fact with_literal
passes zero a b = absurd (omega arith)
passes (suc zero) a b = refl
passes (suc (suc zero)) a b = refl
passes (suc (suc (suc zero))) a b = refl
passes (suc (suc (suc (suc zero)))) a b = refl
passes (suc (suc (suc (suc (suc zero))))) a b = refl
passes (suc (suc (suc (suc (suc (suc zero)))))) a b = refl
passes (suc (suc (suc (suc (suc (suc (suc zero))))))) a b = refl
passes (suc (suc (suc (suc (suc (suc (suc (suc zero)))))))) a b = refl
passes (suc (suc (suc (suc (suc (suc (suc (suc (suc k))))))))) a b = absurd (omega arith)

pub water_well : (k : ℕ) → 1 ≤ k → k ≤ 8 → WellFormed (water_line k)
water_well k a b = well_from (1 + 7 * k) (2 + 7 * k) (water_step k) (facts_of (line_open ∷ at_first k)) (literals_of (is line_open ∷ wanted k)) (passes k a b)

-- two members more, one after the other
pub two_facts : {s t u : FactSet} {f g a b : ℕ} (fs : List ℕ) → t ≡ with_fact s f → u ≡ with_fact t g → s ≡ facts_of fs → f ≡ a → g ≡ b → u ≡ facts_of (b ∷ a ∷ fs)
two_facts fs p q r e d = cc

pub two_literals : {s t u : LiteralSet} {f g a b : ℕ} (ls : List Literal) → t ≡ with_literal s (pos f) → u ≡ with_literal t (pos g) → s ≡ literals_of ls → f ≡ a → g ≡ b → u ≡ literals_of (is b ∷ is a ∷ ls)
two_literals ls p q r e d = cc

-- the steps of the meters
pub water_later : (k o : ℕ) → (o ≢ 0) → (o ≢ 1) → slice_index_or (meter_steps ((o - 2) / 7)) ((o - 2) % 7) closed_step ≡ water_step k o
water_later k zero a b = absurd (a refl)
water_later k (suc zero) a b = absurd (b refl)
water_later k (suc (suc n)) a b =
    let e : suc (suc n) - 2 ≡ n = omega arith in
    ap (λ (m : ℕ). get_or (meter_steps (m / 7)) (m % 7) closed_step) e

-- the numbers of a fact's two literals
pub lit_is : (f : ℕ) → lit (2 * f) ≡ pos f
unfolding code
lit_is f = lit_code (pos f)

pub lit_is_not : (f : ℕ) → lit (2 * f + 1) ≡ neg f
unfolding code
lit_is_not f = lit_code (neg f)
