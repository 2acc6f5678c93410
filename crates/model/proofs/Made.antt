-- The elements of an array that `array::from_fn` makes.
use Rattle.std.proofs.Common.{◌≡◌, ℕ, zero, suc, ◌+◌, ◌<◌, ◌≤◌, List, get_or, sym, subst, ⊎_elim, arith}
use Rattle.std.proofs.lemmas.Bool.{cases_eq}
use Rattle.std.specs.Array.{IsFromFnResult, IsFromFnResultFrom}
use denote.Param.Members.{Mut, Called}

-- f is left as it was by its calls, and P holds of what each gives
module _ {F B : Type 0} (g : Mut F (ℕ × Unit {0}) B) (P : ℕ → B → Type 0) (f : F)
    (call : (i : ℕ) (y : B) (q : F) → Called g f (i, tt) y q → P i y × (q ≡ f)) (ys : List B) where
  made_from : (i n : ℕ) → IsFromFnResultFrom g f ys i n → (k : ℕ) (e : B) → i ≤ k → k < i + n → P k (get_or ys k e)
  made_from i zero r k e low high = absurd (omega arith)
  made_from i (suc n) r k e low high =
      let c = call i r.1 r.0 r.3 in
      ⊎_elim
      (λ same. subst (λ (j : ℕ). P j (get_or ys j e)) (sym same) (subst (P i) (sym (r.2.1 e)) c.0))
      (λ other. made_from (i + 1) n (subst (λ (q : F). IsFromFnResultFrom g q ys (i + 1) n) c.1 r.4) k e (omega arith) (omega arith))
      (cases_eq k i)

  pub made_at : (n : ℕ) → IsFromFnResult g f ys n → (k : ℕ) (e : B) → k < n → P k (get_or ys k e)
  made_at n r k e inside = made_from 0 n r.each k e (omega arith) (omega arith)
