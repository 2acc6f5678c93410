-- One pair struck, and the pairs that a step spoils, as tests.
use Rattle.std.proofs.Common.{◌≡◌, ℕ, Bool, true, false, not, ◌&&◌, ◌||◌, eqb, ◌⊎◌, sym, ap, ◌∙◌, arith}
use Rattle.std.proofs.lemmas.Bool.{and_parts}
use Rattle.std.proofs.lemmas.Bool.Decides.{nat_tests}
use Rattle.sets.specs.Literals.{Literal, code, lit}
use Rattle.sets.proofs.Literals.{lit_code, code_lit}
use Rattle.model.specs.Clauses.{Clauses, Clause}
use Rattle.clauses.specs.Striking.{Cut}

pub at_code : (x : Literal) (a : ℕ) → code x ≡ a → x ≡ lit a
at_code x a e = sym (lit_code x) ∙ ap lit e

module _ (W₀ W : Clauses) (a b : ℕ)
    (is : (k x : Literal) → W k x ≡ (W₀ k x && not ((eqb (code k) a && eqb (code x) b) || (eqb (code k) b && eqb (code x) a)))) where
  pub strike_cut : Cut W₀ W (λ k x. (code k ≡ a) × (code x ≡ b))
  strike_cut = record { within = λ k x h. (and_parts _ _ (sym (is k x) ∙ h)).0; only = only; unordered = unordered }
    where
      only : (k x : Literal) → Clause W₀ k x → W k x ≡ false → ((code k ≡ a) × (code x ≡ b)) ⊎ ((code x ≡ a) × (code k ≡ b))
      only k x h e = let q = is k x in grind (arith, nat_tests)

      unordered : ((k x : Literal) → Clause W₀ k x → Clause W₀ x k) → (k x : Literal) → Clause W k x → Clause W x k
      unordered u k x h = let q = is k x in let q' = is x k in let w = u k x in grind (arith, nat_tests)

  pub strike_done : W (lit a) (lit b) ≡ false
  strike_done = let q = is (lit a) (lit b) in let x = code_lit a in let y = code_lit b in grind (arith, nat_tests)

-- ---- m: made, kn: known, mo: its opposite is made, sf: safe

pub unsafe_spoils : (m kn mo sf : Bool) → sf ≡ (m || (kn && not mo)) → sf ≡ false → (m ≡ true → ⊥) × ((kn ≡ true → ⊥) ⊎ (mo ≡ true))
unsafe_spoils m kn mo sf e h = grind (arith, nat_tests)

pub spoils_unsafe : (m kn mo sf : Bool) → sf ≡ (m || (kn && not mo)) → (m ≡ true → ⊥) → ((kn ≡ true → ⊥) ⊎ (mo ≡ true)) → sf ≡ false
spoils_unsafe m kn mo sf e hm hk = grind (arith, nat_tests)
