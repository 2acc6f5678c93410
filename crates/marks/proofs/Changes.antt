-- One member more or less in one set of a table, and one entry more or less on a stack.
use Rattle.std.proofs.Common.{◌≡◌, ℕ, ◌+◌, ◌-◌, ◌<◌, ◌≤◌, min, Bool, true, cond, not, ◌&&◌, ◌||◌, eqb, ltb, List, [], ◌∷◌, ◌++◌, length, get_or, take, set, sym, ap, ◌∙◌, subst, ap₂, ⊎_elim, arith, length-take-le, get_or-set_other, get_or-take, get_or-set_same}
use lib.Seq.{get_or_at}
use Rattle.std.proofs.Math.Bool.{and-true}
use Rattle.std.proofs.lemmas.Bool.{cases_eq, ne_eqb, lt-ltb, cond-true}
use Rattle.std.proofs.lemmas.Bool.Decides.{nat_tests}

module _ {A : Type 0} (mem : A → ℕ → Bool) (d : A) (xs : List A) (t i : ℕ) (s : A) (within : t < length xs) where
  module _ (h : (k : ℕ) → mem s k ≡ (mem (get_or xs t d) k || eqb k i)) where
    entered_at : (k : ℕ) → mem (get_or (set xs t s) t d) k ≡ ((eqb t t && eqb i k) || mem (get_or xs t d) k)
    entered_at k = ap (λ (z : A). mem z k) (get_or-set_same xs t s d within) ∙ h k ∙ grind (arith, nat_tests)

    pub entered : (u k : ℕ) → mem (get_or (set xs t s) u d) k ≡ ((eqb t u && eqb i k) || mem (get_or xs u d) k)
    entered u k = ⊎_elim
        (λ (e : t ≡ u). subst (λ (v : ℕ). mem (get_or (set xs t s) v d) k ≡ ((eqb t v && eqb i k) || mem (get_or xs v d) k)) e (entered_at k))
        (λ e. ap (λ (z : A). mem z k) (get_or-set_other xs t u s d (λ q. e (sym q)))
        ∙ ap (λ (b : Bool). (b && eqb i k) || mem (get_or xs u d) k) (sym (ne_eqb t u e)))
        (cases_eq t u)

  module _ (h : (k : ℕ) → mem s k ≡ (mem (get_or xs t d) k && not (eqb k i))) where
    struck_at : (k : ℕ) → mem (get_or (set xs t s) t d) k ≡ (mem (get_or xs t d) k && not (eqb t t && eqb i k))
    struck_at k = ap (λ (z : A). mem z k) (get_or-set_same xs t s d within) ∙ h k ∙ grind (arith, nat_tests)

    pub struck : (u k : ℕ) → mem (get_or (set xs t s) u d) k ≡ (mem (get_or xs u d) k && not (eqb t u && eqb i k))
    struck u k = ⊎_elim
        (λ (e : t ≡ u). subst (λ (v : ℕ). mem (get_or (set xs t s) v d) k ≡ (mem (get_or xs v d) k && not (eqb t v && eqb i k))) e (struck_at k))
        (λ e. ap (λ (z : A). mem z k) (get_or-set_other xs t u s d (λ q. e (sym q)))
        ∙ sym (and-true (mem (get_or xs u d) k))
        ∙ ap (λ (b : Bool). mem (get_or xs u d) k && not (b && eqb i k)) (sym (ne_eqb t u e)))
        (cases_eq t u)

-- the stack ys of length a over the table xs of which n entries are in use
module _ {A : Type 0} (xs ys : List A) (n a : ℕ) (fits : n ≤ length xs) (same : ys ≡ xs) (from : a ≡ min n (length xs)) where
  resumed : a ≡ n
  resumed = omega arith

  pub pushed : (zs : List A) (b : ℕ) (ok : Bool) (x : A) → n < length xs → ok ≡ ltb a (length ys) → zs ≡ cond ok (set ys a x) ys → b ≡ cond ok (a + 1) a
      → (zs ≡ set xs n x) × (b ≡ n + 1)
  pushed zs b ok x h f t l =
      let yes : ok ≡ true = f ∙ ap₂ ltb resumed (ap length same) ∙ lt-ltb n (length xs) h in (
        t ∙ cond-true ok (set ys a x) ys yes ∙ ap₂ (λ (q : List A) (k : ℕ). set q k x) same resumed,
        l ∙ cond-true ok (a + 1) a yes ∙ ap (λ (k : ℕ). k + 1) resumed,
      )

  pub top_is : (zs : List A) (b : ℕ) (x d : A) → 0 < n → zs ≡ ys → b ≡ a - 1 → take a ys ≡ take b zs ++ x ∷ [] → x ≡ get_or xs (n - 1) d
  top_is zs b x d h t l e =
      let eb : b ≡ n - 1 = omega (arith, resumed) in
      let e' : take n xs ≡ take (n - 1) xs ++ x ∷ [] = ap₂ take (sym resumed) (sym same) ∙ e ∙ ap₂ (λ (k : ℕ) (q : List A). take k q ++ x ∷ []) eb (t ∙ same) in
      sym (sym (get_or-take n xs (n - 1) d (omega arith)) ∙ ap (λ (q : List A). get_or q (n - 1) d) e' ∙ get_or_at (take (n - 1) xs) x [] d (n - 1) (length-take-le (n - 1) xs (omega arith)))
