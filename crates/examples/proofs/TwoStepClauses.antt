-- The kept clauses of the two-step problem: three pairs are kept, and every other is false at the start or spoilt.
use Rattle.std.proofs.Common.{◌≡◌, ℕ, zero, suc, ◌<◌, Bool, true, false, not, ◌&&◌, ◌||◌, ◌⊎◌, sym, refl, ap, subst, subst₂, inl, inr, ⊎_elim, arith}
use Rattle.std.proofs.lemmas.Bool.{both_ways, and_parts, or_cases, not-true, eqb-true}
use Rattle.sets.specs.Has.{has}
use Rattle.sets.specs.Literals.{Literal, pos, neg, opposite, fact}
use Rattle.sets.specs.Sets.{fact_in, lit_in, with_fact, with_literal}
use Rattle.model.specs.declared.step.Step.{Step}
use Rattle.model.specs.Problems.{Problem, Open, Needs, Holds, start_state, step}
use Rattle.model.specs.Clauses.{Clauses, Clause, Barred, SpoilsBy, Spoils, Kept, Within, Largest}
use Rattle.examples.specs.Sheets.{two_steps}
use Rattle.examples.specs.TwoSteps.{same_literal, pair, two_step_clauses}
use Rattle.examples.proofs.TwoSteps.{two_steps_well}

-- ---- the three pairs are kept

pub same : (a b : Literal) → same_literal a b ≡ true → a ≡ b
same (pos f) (pos g) e = ap pos (eqb-true f g e)
same (pos f) (neg g) e = absurd (both_ways false refl e)
same (neg f) (pos g) e = absurd (both_ways false refl e)
same (neg f) (neg g) e = ap neg (eqb-true f g e)

-- what holds of a pair in both orders holds of its clause
pair_from : (P : Literal → Literal → Type 0) (a b : Literal) → P a b → P b a → (x y : Literal) → Clause (pair a b) x y → P x y
pair_from P a b h k x y e =
    ⊎_elim
    (λ q. let d = and_parts (same_literal x a) (same_literal y b) q in subst₂ P (sym (same x a d.0)) (sym (same y b d.1)) h)
    (λ q. let d = and_parts (same_literal x b) (same_literal y a) q in subst₂ P (sym (same x b d.0)) (sym (same y a d.1)) k)
    (or_cases (same_literal x a && same_literal y b) (same_literal x b && same_literal y a) e)

each_clause : (P : Literal → Literal → Type 0) → P (pos 0) (neg 0) → P (neg 0) (pos 0) → P (pos 1) (neg 1) → P (neg 1) (pos 1)
    → P (neg 0) (neg 1) → P (neg 1) (neg 0) → (x y : Literal) → Clause two_step_clauses x y → P x y
each_clause P a b c d e f x y h =
    ⊎_elim
    (λ q. pair_from P (pos 0) (neg 0) a b x y q)
    (λ q. ⊎_elim (λ r. pair_from P (pos 1) (neg 1) c d x y r) (λ r. pair_from P (neg 0) (neg 1) e f x y r) (or_cases (pair (pos 1) (neg 1) x y) (pair (neg 0) (neg 1) x y) q))
    (or_cases (pair (pos 0) (neg 0) x y) (pair (pos 1) (neg 1) x y || pair (neg 0) (neg 1) x y) h)

-- a step does not spoil {a, b} by undoing a: it does not, or it makes b, or it needs b and does not undo it
abbrev safe? : Step → Literal → Literal → Bool
safe? s a b = not (lit_in s.makes (opposite a)) || (lit_in s.makes b || (lit_in s.needs b && not (lit_in s.makes (opposite b))))

safe : (p : Problem) (V : Clauses) (o : ℕ) (a b : Literal) → safe? (step p o) a b ≡ true → SpoilsBy p V o a b → ⊥
safe p V o a b e h =
    let s = step p o in
    ⊎_elim
    (λ q. both_ways _ (not-true (lit_in s.makes (opposite a)) q) h.0)
    (λ q. ⊎_elim h.1
    (λ r. let d = and_parts (lit_in s.needs b) (not (lit_in s.makes (opposite b))) r in
    ⊎_elim (λ u. u (inr (inl d.0))) (λ m. both_ways _ (not-true (lit_in s.makes (opposite b)) d.1) m) h.2)
    (or_cases (lit_in s.makes b) (lit_in s.needs b && not (lit_in s.makes (opposite b))) q))
    (or_cases (not (lit_in s.makes (opposite a))) (lit_in s.makes b || (lit_in s.needs b && not (lit_in s.makes (opposite b)))) e)

unspoilt : (V : Clauses) (a b : Literal) → safe? (step two_steps 0) a b ≡ true → safe? (step two_steps 0) b a ≡ true → safe? (step two_steps 1) a b ≡ true
    → safe? (step two_steps 1) b a ≡ true → (o : ℕ) → Open two_steps o → (Barred two_steps V o → ⊥) → Spoils two_steps V o a b → ⊥
unspoilt V a b p q r s zero open-here free h = ⊎_elim (safe two_steps V 0 a b p) (safe two_steps V 0 b a q) h
unspoilt V a b p q r s (suc zero) open-here free h = ⊎_elim (safe two_steps V 1 a b r) (safe two_steps V 1 b a s) h
unspoilt V a b p q r s (suc (suc o)) open-here free h = both_ways false refl open-here

kept : Kept two_steps two_step_clauses
unfolding has fact_in lit_in with_fact with_literal
kept =
    let U = λ (a b : Literal). unspoilt two_step_clauses a b in
    record {
      in_range = each_clause (λ a b. (fact a < 2) × (fact b < 2)) (omega arith, omega arith) (omega arith, omega arith) (omega arith, omega arith)
          (omega arith, omega arith) (omega arith, omega arith) (omega arith, omega arith);
      unordered = each_clause (λ a b. Clause two_step_clauses b a) refl refl refl refl refl refl;
      at_start = each_clause (λ a b. Holds (start_state two_steps) a ⊎ Holds (start_state two_steps) b) (inl refl) (inr refl) (inr refl) (inl refl) (inr refl) (inl refl);
      unspoiled = each_clause (λ a b. (o : ℕ) → Open two_steps o → (Barred two_steps two_step_clauses o → ⊥) → Spoils two_steps two_step_clauses o a b → ⊥)
          (U (pos 0) (neg 0) refl refl refl refl) (U (neg 0) (pos 0) refl refl refl refl) (U (pos 1) (neg 1) refl refl refl refl)
          (U (neg 1) (pos 1) refl refl refl refl) (U (neg 0) (neg 1) refl refl refl refl) (U (neg 1) (neg 0) refl refl refl refl);
    }

-- ---- every other pair goes

each_literal : (P : Literal → Type 0) → P (pos 0) → P (neg 0) → P (pos 1) → P (neg 1) → (l : Literal) → fact l < 2 → P l
each_literal P a b c d (pos zero) r = a
each_literal P a b c d (pos (suc zero)) r = c
each_literal P a b c d (pos (suc (suc f))) r = absurd (omega arith)
each_literal P a b c d (neg zero) r = b
each_literal P a b c d (neg (suc zero)) r = d
each_literal P a b c d (neg (suc (suc f))) r = absurd (omega arith)

-- a test that came out false was not true
no : {A : Type 0} → false ≡ true → A
no e = absurd (both_ways false refl e)

dry_needs : (l : Literal) → Needs two_steps 0 l → l ≡ pos 0
unfolding has fact_in lit_in with_fact with_literal
dry_needs l n = each_literal (λ x. Needs two_steps 0 x → x ≡ pos 0) (λ e. refl) no no no l (two_steps_well.needs_in_range 0 l n) n

fit_needs : (l : Literal) → Needs two_steps 1 l → l ≡ neg 0
unfolding has fact_in lit_in with_fact with_literal
fit_needs l n = each_literal (λ x. Needs two_steps 1 x → x ≡ neg 0) no (λ e. refl) no no l (two_steps_well.needs_in_range 1 l n) n

module _ (W : Clauses) (k : Kept two_steps W) where
  -- false at the start
  never_wet : Clause W (neg 0) (neg 0) → ⊥
  unfolding has fact_in with_fact
  never_wet h = ⊎_elim no no (k.at_start (neg 0) (neg 0) h)

  not_wet_or_done : Clause W (neg 0) (pos 1) → ⊥
  unfolding has fact_in with_fact
  not_wet_or_done h = ⊎_elim no no (k.at_start (neg 0) (pos 1) h)

  always_done : Clause W (pos 1) (pos 1) → ⊥
  unfolding has fact_in with_fact
  always_done h = ⊎_elim no no (k.at_start (pos 1) (pos 1) h)

  -- spoilt by dry
  dry_free : Barred two_steps W 0 → ⊥
  dry_free h = never_wet (subst₂ (λ (a b : Literal). Clause W (opposite a) (opposite b)) (dry_needs h.0 h.2) (dry_needs h.1 h.3) h.4)

  always_wet : Clause W (pos 0) (pos 0) → ⊥
  unfolding has fact_in lit_in with_fact with_literal
  always_wet h = k.unspoiled (pos 0) (pos 0) h 0 refl dry_free (inl (refl, no, inr refl))

  wet_or_done : Clause W (pos 0) (pos 1) → ⊥
  unfolding has fact_in lit_in with_fact with_literal
  wet_or_done h = k.unspoiled (pos 0) (pos 1) h 0 refl dry_free (inl (
    refl,
    no,
    inl (λ known.
        ⊎_elim always_done (λ n. ⊎_elim no
        (λ m. not_wet_or_done (subst (λ (a : Literal). Clause W (opposite a) (pos 1)) (dry_needs m.0 m.1) m.2)) n) known),
  ))

  -- spoilt by fit
  fit_free : Barred two_steps W 1 → ⊥
  fit_free h = always_wet (subst₂ (λ (a b : Literal). Clause W (opposite a) (opposite b)) (fit_needs h.0 h.2) (fit_needs h.1 h.3) h.4)

  wet_or_undone : Clause W (neg 1) (pos 0) → ⊥
  unfolding has fact_in lit_in with_fact with_literal
  wet_or_undone h = k.unspoiled (neg 1) (pos 0) h 1 refl fit_free (inl (
    refl,
    no,
    inl (λ known.
        ⊎_elim always_wet (λ n. ⊎_elim no
        (λ m. always_wet (subst (λ (a : Literal). Clause W (opposite a) (pos 0)) (fit_needs m.0 m.1) m.2)) n) known),
  ))

  never_done : Clause W (neg 1) (neg 1) → ⊥
  unfolding has fact_in lit_in with_fact with_literal
  never_done h = k.unspoiled (neg 1) (neg 1) h 1 refl fit_free (inl (refl, no, inr refl))

  turned : (a b : Literal) → (Clause W b a → ⊥) → Clause W a b → Clause two_step_clauses a b
  turned a b f h = absurd (f (k.unordered a b h))

  above : Within W two_step_clauses
  above a b h =
      let r = k.in_range a b h in
      let goes : (x y : Literal) → (Clause W x y → ⊥) → Clause W x y → Clause two_step_clauses x y = λ x y f e. absurd (f e) in
      each_literal (λ x. (y : Literal) → fact y < 2 → Clause W x y → Clause two_step_clauses x y)
      (each_literal (λ y. Clause W (pos 0) y → Clause two_step_clauses (pos 0) y)
      (goes (pos 0) (pos 0) always_wet) (λ e. refl) (goes (pos 0) (pos 1) wet_or_done) (turned (pos 0) (neg 1) wet_or_undone))
      (each_literal (λ y. Clause W (neg 0) y → Clause two_step_clauses (neg 0) y)
      (λ e. refl) (goes (neg 0) (neg 0) never_wet) (goes (neg 0) (pos 1) not_wet_or_done) (λ e. refl))
      (each_literal (λ y. Clause W (pos 1) y → Clause two_step_clauses (pos 1) y)
      (turned (pos 1) (pos 0) wet_or_done) (turned (pos 1) (neg 0) not_wet_or_done) (goes (pos 1) (pos 1) always_done) (λ e. refl))
      (each_literal (λ y. Clause W (neg 1) y → Clause two_step_clauses (neg 1) y)
      (goes (neg 1) (pos 0) wet_or_undone) (λ e. refl) (λ e. refl) (goes (neg 1) (neg 1) never_done))
      a r.0 b r.1 h

pub largest : Largest two_steps two_step_clauses
largest = record { kept = kept; above = above }
