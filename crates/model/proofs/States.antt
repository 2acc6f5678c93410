-- What a state holds after literals are put in, and after one time of a plan.
use Rattle.std.proofs.Common.{◌≡◌, ℕ, zero, suc, ◌<◌, Bool, true, false, not, ◌⊎◌, sym, refl, ap, subst, inl, inr, ⊎_elim, arith}
use Rattle.std.proofs.lemmas.Bool.{both_ways, or_cases, or_left, or_right, and_from, and_parts, cases_Bool, cases_eq}
pub use Rattle.sets.proofs.Literals.{opposite_opposite, fact_opposite}
use Rattle.sets.specs.Literals.{Literal, pos, neg, opposite}
use Rattle.model.specs.Problems.{Problem, WellFormed, steps, State, Holds, Makes}
use Rattle.model.specs.Plans.{Cells, Taken, some_below, put, made_at, state, IsPlan}

pub never_both : (s : State) (l : Literal) → Holds s l → Holds s (opposite l) → ⊥
never_both s (pos f) h k = grind arith
never_both s (neg f) h k = grind arith

pub one_of : (s : State) (l : Literal) → Holds s l ⊎ Holds s (opposite l)
one_of s (pos f) = ⊎_elim (λ h. inl h) (λ h. inr (ap not h)) (cases_Bool (s f))
one_of s (neg f) = ⊎_elim (λ h. inr h) (λ h. inl (ap not h)) (cases_Bool (s f))

-- a search over the numbers below n
pub found_below : (n : ℕ) (test : ℕ → Bool) → some_below n test ≡ true → (o : ℕ) × (o < n) × (test o ≡ true)
found_below zero test h = absurd (both_ways false refl h)
found_below (suc n) test h = ⊎_elim (λ e. (n, omega arith, e)) (λ e. let r = found_below n test e in (r.0, omega (arith, r.1), r.2)) (or_cases (test n) (some_below n test) h)

pub none_below : (n : ℕ) (test : ℕ → Bool) → ((o : ℕ) → test o ≡ true → ⊥) → some_below n test ≡ false
none_below n test h = ⊎_elim (λ e. absurd (h (found_below n test e).0 (found_below n test e).2)) (λ e. e) (cases_Bool (some_below n test))

pub some_below_from : (n : ℕ) (test : ℕ → Bool) (o : ℕ) → o < n → test o ≡ true → some_below n test ≡ true
some_below_from zero test o l h = absurd (omega arith)
some_below_from (suc n) test o l h = ⊎_elim (λ e. or_left (test n) _ (subst (λ x. test x ≡ true) e h)) (λ e. or_right (test n) _ (some_below_from n test o (omega arith) h)) (cases_eq o n)

-- a state with literals put in
pub put_makes : (s : State) (made : Literal → Bool) (l : Literal) → made l ≡ true → made (opposite l) ≡ false → Holds (put s made) l
put_makes s made (pos f) h k = or_left (made (pos f)) _ h
put_makes s made (neg f) h k = grind arith

pub put_keeps : (s : State) (made : Literal → Bool) (l : Literal) → Holds s l → made (opposite l) ≡ false → Holds (put s made) l
put_keeps s made (pos f) h k = grind arith
put_keeps s made (neg f) h k = grind arith

pub put_from : (s : State) (made : Literal → Bool) (l : Literal) → Holds (put s made) l → (made l ≡ true) ⊎ (Holds s l × (made (opposite l) ≡ false))
put_from s made (pos f) h = grind arith
put_from s made (neg f) h = grind arith

-- one time of cells within their bounds
module _ (p : Problem) (T : ℕ) (c : Cells) (within : (t o : ℕ) → Taken c t o → (t < T) × (o < steps p)) where
  made_from : (t o : ℕ) (l : Literal) → Taken c t o → Makes p o l → made_at p c t l ≡ true
  made_from t o l h m = some_below_from (steps p) _ o (within t o h).1 (and_from (c t o) _ h m)

  maker : (t : ℕ) (l : Literal) → made_at p c t l ≡ true → (o : ℕ) × Taken c t o × Makes p o l
  maker t l h = let r = found_below (steps p) _ h in
      let q = and_parts (c t r.0) _ r.2 in (r.0, q.0, q.1)

  unmade : (t : ℕ) (l : Literal) → ((o : ℕ) → Taken c t o → Makes p o l → ⊥) → made_at p c t l ≡ false
  unmade t l h = none_below (steps p) _ (λ o e. let q = and_parts (c t o) _ e in h o q.0 q.1)

  -- what holds, and no step makes false, holds in the next state
  pub stays : (t : ℕ) (l : Literal) → Holds (state p c t) l → ((o : ℕ) → Taken c t o → Makes p o (opposite l) → ⊥) → Holds (state p c (suc t)) l
  stays t l h k = put_keeps (state p c t) (made_at p c t) l h (unmade t (opposite l) k)

  -- where the literals of the next state come from
  pub comes_from : (t : ℕ) (l : Literal) → Holds (state p c (suc t)) l
      → ((o : ℕ) × Taken c t o × Makes p o l) ⊎ (Holds (state p c t) l × ((o : ℕ) → Taken c t o → Makes p o (opposite l) → ⊥))
  comes_from t l h = ⊎_elim (λ e. inl (maker t l e))
      (λ e. inr (e.0, λ o k m. both_ways _ e.1 (made_from t o (opposite l) k m)))
      (put_from (state p c t) (made_at p c t) l h)

-- one time of a plan
module _ (p : Problem) (wf : WellFormed p) (T : ℕ) (c : Cells) (plan : IsPlan p T c) where
  -- no two steps of one time make opposite literals
  pub makes_agree : (t o o' : ℕ) (l : Literal) → Taken c t o → Taken c t o' → Makes p o l → Makes p o' (opposite l) → ⊥
  makes_agree t o o' l h h' m m' = ⊎_elim
      (λ e. wf.makes_agree o l m (subst (λ x. Makes p x (opposite l)) (sym e) m'))
      (λ d. plan.apart t o o' h h' (d, inr (l, m', inr m)))
      (cases_eq o o')

  -- what a step makes holds in the next state
  pub made_holds : (t o : ℕ) (l : Literal) → Taken c t o → Makes p o l → Holds (state p c (suc t)) l
  made_holds t o l h m = put_makes (state p c t) (made_at p c t) l (made_from p T c plan.within t o l h m)
      (unmade p T c plan.within t (opposite l) (λ o' h' m'. makes_agree t o o' l h h' m m'))
