-- The marks that are given, and the marks at the beginning. Assumes nothing.
use Rattle.std.proofs.Common.{◌≡◌, ℕ, ◌+◌, ◌<◌, Bool, true, false, ◌&&◌, ◌||◌, eqb, ltb, ◌⊎◌, get_or, sym, refl, ap, ◌∙◌, subst, inl, inr, ⊎_elim, arith}
use Rattle.std.proofs.lemmas.Bool.{both_ways, and_parts, and_from, or_cases, or_left, or_right, eqb-true, eq-eqb, ltb-true, lt-ltb, cases_eq}
use Rattle.sets.specs.Sets.{step_in, no_steps}
use Rattle.marks.specs.declared.mark.Mark.{Mark}
use Rattle.marks.specs.declared.mark.Mark.TheVariants.{Fact, Taken, LeftOut}
use Rattle.marks.specs.declared.tables.Marks.{Marks}
use Rattle.marks.specs.declared.index.Index.{Index}
use Rattle.marks.specs.declared.pins.Pins.{Pins}
use Rattle.marks.specs.Tables.{number_in, opp, opp_lit, in_trail}
use Rattle.marks.specs.Pinning.{pins_of, says_take, says_leave}
use Rattle.marks.specs.Grows.{on, Added}
use Rattle.marks.specs.Rules.{On, Holds, Follows, Forced, Good, Done, Settled, Pinned, seeds}
use Rattle.marks.proofs.Growth.{added_then}
use Rattle.marks.proofs.Pinning.{said_taken, said_left}
use Rattle.marks.specs.Rules.{Follows.f_stays_false, Follows.f_was_true, Follows.f_only_maker}

-- ---- the marks that are given

module _ (ix : Index) (pins : Pins) (T : ℕ) where
  abbrev pub Given : Mark → Bool
  Given = seeds ix (pins_of pins) T

  abbrev pub Cells : Mark → Type 0
  Cells y = (t : ℕ) × (t < T) × Pinned ix pins t y

  is_taken : (t o : ℕ) → says_take (pins_of pins t o) ≡ step_in (get_or pins.cells.taken t no_steps) o
  is_taken t o = said_taken (step_in (get_or pins.cells.taken t no_steps) o) (step_in (get_or pins.cells.left t no_steps) o)

  is_left : (t o : ℕ) → says_leave (pins_of pins t o) ≡ step_in (get_or pins.cells.left t no_steps) o
  is_left t o = said_left (step_in (get_or pins.cells.taken t no_steps) o) (step_in (get_or pins.cells.left t no_steps) o) (pins.apart t o)

  pub seeds_split : (y : Mark) → Given y ≡ true → Holds ix.start 0 y ⊎ (Holds ix.goal T y ⊎ Cells y)
  seeds_split (Fact t l) h = ⊎_elim
      (λ e. let a = and_parts _ _ e in inl (l, a.1, ap (λ (u : ℕ). Fact u l) (eqb-true t 0 a.0)))
      (λ e. let a = and_parts _ _ e in inr (inl (l, a.1, ap (λ (u : ℕ). Fact u l) (eqb-true t T a.0))))
      (or_cases (eqb t 0 && number_in ix.start l) (eqb t T && number_in ix.goal l) h)
  seeds_split (Taken t o) h = let a = and_parts (ltb t T) (says_take (pins_of pins t o)) h in
      inr (inr (t, ltb-true t T a.0, inr (inr (o, sym (is_taken t o) ∙ a.1, refl))))
  seeds_split (LeftOut t o) h = let a = and_parts (ltb t T) (step_in ix.closed o || says_leave (pins_of pins t o)) h in
      inr (inr (t, ltb-true t T a.0, ⊎_elim (λ e. inl (o, e, refl)) (λ e. inr (inl (o, sym (is_left t o) ∙ e, refl))) (or_cases (step_in ix.closed o) (says_leave (pins_of pins t o)) a.1)))

  pub from_start : (y : Mark) → Holds ix.start 0 y → Given y ≡ true
  from_start y h = subst (λ (x : Mark). Given x ≡ true) (sym h.2) (or_left _ _ (and_from _ _ (eq-eqb 0 0 refl) h.1))

  pub from_goal : (y : Mark) → Holds ix.goal T y → Given y ≡ true
  from_goal y h = subst (λ (x : Mark). Given x ≡ true) (sym h.2) (or_right _ _ (and_from _ _ (eq-eqb T T refl) h.1))

  pub from_cells : (y : Mark) → Cells y → Given y ≡ true
  from_cells y (t, r, p) = ⊎_elim
      (λ h. subst (λ (x : Mark). Given x ≡ true) (sym h.2) (and_from _ _ (lt-ltb t T r) (or_left _ _ h.1)))
      (λ q. ⊎_elim
      (λ h. subst (λ (x : Mark). Given x ≡ true) (sym h.2) (and_from _ _ (lt-ltb t T r) (or_right _ _ (is_left t h.0 ∙ h.1))))
      (λ h. subst (λ (x : Mark). Given x ≡ true) (sym h.2) (and_from _ _ (lt-ltb t T r) (is_taken t h.0 ∙ h.1))) q)
      p

  -- one time more
  pub pinned_more : {a b c : Marks} (t : ℕ) → Added a (λ y. (i : ℕ) × (i < t) × Pinned ix pins i y) b → Added b (Pinned ix pins t) c
      → Added a (λ y. (i : ℕ) × (i < t + 1) × Pinned ix pins i y) c
  pinned_more t d e = added_then d e
      (λ y q. ⊎_elim (λ (k : q.0 ≡ t). inr (subst (λ (i : ℕ). Pinned ix pins i y) k q.2)) (λ k. inl (q.0, omega (arith, q.1), q.2)) (cases_eq q.0 t))
      (λ y s. (s.0, omega (arith, s.1), s.2))
      (λ y r. (t, omega arith, r))

-- ---- the beginning

module _ (a : Marks) (empty : a.len ≡ 0) where
  none_on : (x : Mark) → On a x → ⊥
  unfolding in_trail
  none_on x h = both_ways (on a x) (a.listed x ∙ ap (λ (n : ℕ). in_trail a.trail n x) empty) h

  pub planted_good : (ix : Index) (seed : Mark → Bool) (b : Marks) → a.conflict ≡ false → Added a (λ y. seed y ≡ true) b → Good ix seed b
  planted_good ix seed b calm d = record {
    sound = sound;
    broken = λ h. ⊎_elim (λ e. absurd (both_ways a.conflict calm e)) (λ e. (e.0, (λ M k s. s e.0 e.1), sound (opp e.0) e.2)) (d.why h);
  }
    where
      sound : (x : Mark) → On b x → Forced ix b.length seed x
      sound x h = ⊎_elim (λ e. absurd (none_on x e)) (λ e M k s. s x e) (d.new x h)

-- nothing was processed yet
pub settled_none : (ix : Index) (m : Marks) → m.head ≡ 0 → Settled ix m
unfolding in_trail
settled_none ix m h = record {
  needs = λ t o l d n. absurd (none (Taken t o) d);
  makes = λ t o l d n. absurd (none (Taken t o) d);
  rivals = λ t o i d n. absurd (none (Taken t o) d);
  need_false = λ t l o r d n. absurd (none (Fact t l) d);
  make_false = λ t l o r d n. absurd (none (Fact (t + 1) l) d);
  clause = λ t l b d n. absurd (none (Fact t l) d);
  follows = λ t l r y f. absurd (nothing t l y f);
}
  where
    none : (x : Mark) → Done m x → ⊥
    none x d = both_ways _ (ap (λ (n : ℕ). in_trail m.trail n x) h) d

    nothing : (t l : ℕ) (y : Mark) → Follows ix (Done m) t l y → ⊥
    nothing t l y (f_stays_false n f) = none (Fact t (opp_lit l)) f
    nothing t l y (f_was_true n f) = none (Fact (t + 1) l) f
    nothing t l y (f_only_maker o k n f g) = none (Fact (t + 1) l) g
