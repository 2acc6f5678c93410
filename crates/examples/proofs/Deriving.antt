-- Marks that follow by a list of rule applications are forced: each application is tested, and adds its mark where it may.
use Rattle.std.proofs.Common.{◌≡◌, ℕ, suc, ◌<◌, Bool, true, false, not, ◌&&◌, ◌||◌, eqb, ltb, List, [], ◌∷◌, sym, refl, subst, inl, inr, ⊎_elim}
use Rattle.std.proofs.lemmas.Bool.{both_ways, and_parts, or_cases, not-true, ltb-true, eqb-true, eqb-false, cases_Bool}
use Rattle.sets.specs.Literals.{Literal, opposite, fact}
use Rattle.sets.specs.Sets.{lit_in}
use Rattle.model.specs.Problems.{Problem, steps, step, start_state, value, Undoes, Interfere}
use Rattle.model.specs.Plans.{Pins}
use Rattle.model.specs.Clauses.{Clauses}
use Rattle.model.specs.Marks.{Mark, true_at, false_at, taken, left_out, Closed}
use Rattle.examples.specs.TwoSteps.{same_literal}
use Rattle.examples.proofs.PlanTests.{all_below, all_below_at, implies, implied}
use Rattle.examples.proofs.TwoStepClauses.{same}

-- ---- lists of marks

abbrev same_mark? : Mark → Mark → Bool
same_mark? (true_at l t) (true_at k u) = same_literal l k && eqb t u
same_mark? (true_at l t) (taken u o) = false
same_mark? (true_at l t) (left_out u o) = false
same_mark? (taken t o) (true_at l u) = false
same_mark? (taken t o) (taken u q) = eqb t u && eqb o q
same_mark? (taken t o) (left_out u q) = false
same_mark? (left_out t o) (true_at l u) = false
same_mark? (left_out t o) (taken u q) = false
same_mark? (left_out t o) (left_out u q) = eqb t u && eqb o q

same_mark : (m n : Mark) → same_mark? m n ≡ true → m ≡ n
same_mark (true_at l t) (true_at k u) e =
    let d = and_parts (same_literal l k) (eqb t u) e in λ i. true_at (same l k d.0 i) (eqb-true t u d.1 i)
same_mark (true_at l t) (taken u o) e = absurd (both_ways false refl e)
same_mark (true_at l t) (left_out u o) e = absurd (both_ways false refl e)
same_mark (taken t o) (true_at l u) e = absurd (both_ways false refl e)
same_mark (taken t o) (taken u q) e =
    let d = and_parts (eqb t u) (eqb o q) e in λ i. taken (eqb-true t u d.0 i) (eqb-true o q d.1 i)
same_mark (taken t o) (left_out u q) e = absurd (both_ways false refl e)
same_mark (left_out t o) (true_at l u) e = absurd (both_ways false refl e)
same_mark (left_out t o) (taken u q) e = absurd (both_ways false refl e)
same_mark (left_out t o) (left_out u q) e =
    let d = and_parts (eqb t u) (eqb o q) e in λ i. left_out (eqb-true t u d.0 i) (eqb-true o q d.1 i)

abbrev pub marked? : Mark → List Mark → Bool
marked? m [] = false
marked? m (k ∷ ks) = same_mark? m k || marked? m ks

-- all marks of the list are in the set
abbrev pub AllIn : (Mark → Bool) → List Mark → Type 0
AllIn M ks = (m : Mark) → marked? m ks ≡ true → M m ≡ true

-- ---- the applications of rules

pub data Rule : Type 0 where
  at_start at_goal : Literal → Rule
  need make need_false make_false only : ℕ → ℕ → Literal → Rule
  rival : ℕ → ℕ → ℕ → Literal → Rule
  stay : ℕ → Literal → Rule

module _ (p : Problem) (T : ℕ) (pins : Pins) where
  abbrev conclusion : Rule → Mark
  conclusion (at_start l) = true_at l 0
  conclusion (at_goal l) = true_at l T
  conclusion (need t o l) = true_at l t
  conclusion (make t o l) = true_at l (suc t)
  conclusion (need_false t o l) = left_out t o
  conclusion (make_false t o l) = left_out t o
  conclusion (only t o l) = taken t o
  conclusion (rival t o o' l) = left_out t o'
  conclusion (stay t l) = false_at l (suc t)

  abbrev within? : ℕ → ℕ → Bool
  within? t o = ltb t T && ltb o (steps p)

  -- step o undoes what step o' needs or makes, at the literal
  abbrev undoes_at? : ℕ → ℕ → Literal → Bool
  undoes_at? o o' l = lit_in (step p o).makes (opposite l) && (lit_in (step p o').needs l || lit_in (step p o').makes l)

  abbrev no_maker? : List Mark → Literal → ℕ → Bool
  no_maker? ks l t = all_below (steps p) (λ o. implies (lit_in (step p o).makes l) (marked? (left_out t o) ks))

  abbrev no_maker_but? : List Mark → ℕ → Literal → ℕ → Bool
  no_maker_but? ks o l t = all_below (steps p) (λ o'. implies (lit_in (step p o').makes l) (eqb o' o || marked? (left_out t o') ks))

  -- whether the rule applies, with these marks
  abbrev applies? : Rule → List Mark → Bool
  applies? (at_start l) ks = ltb (fact l) p.facts && value (start_state p) l
  applies? (at_goal l) ks = lit_in p.goal l
  applies? (need t o l) ks = marked? (taken t o) ks && lit_in (step p o).needs l
  applies? (make t o l) ks = marked? (taken t o) ks && lit_in (step p o).makes l
  applies? (need_false t o l) ks = within? t o && (lit_in (step p o).needs l && marked? (false_at l t) ks)
  applies? (make_false t o l) ks = within? t o && (lit_in (step p o).makes l && marked? (false_at l (suc t)) ks)
  applies? (only t o l) ks = within? t o && (lit_in (step p o).makes l && (no_maker_but? ks o l t && (marked? (false_at l t) ks && marked? (true_at l (suc t)) ks)))
  applies? (rival t o o' l) ks = within? t o' && (marked? (taken t o) ks && (not (eqb o o') && (undoes_at? o o' l || undoes_at? o' o l)))
  applies? (stay t l) ks = ltb t T && (no_maker? ks l t && marked? (false_at l t) ks)

  undoes_at : (o o' : ℕ) (l : Literal) → undoes_at? o o' l ≡ true → Undoes p o o'
  undoes_at o o' l e =
      let d = and_parts (lit_in (step p o).makes (opposite l)) (lit_in (step p o').needs l || lit_in (step p o').makes l) e in
      (l, d.0, or_cases (lit_in (step p o').needs l) (lit_in (step p o').makes l) d.1)

  module _ (V : Clauses) (M : Mark → Bool) (closed : Closed p T pins V (λ m. M m ≡ true)) (ks : List Mark) (known : AllIn M ks) where
    no_maker : (l : Literal) (t : ℕ) → no_maker? ks l t ≡ true → (o : ℕ) → o < steps p → lit_in (step p o).makes l ≡ true → M (left_out t o) ≡ true
    no_maker l t e o r m =
        known (left_out t o) (implied (lit_in (step p o).makes l) (marked? (left_out t o) ks)
        (all_below_at (steps p) (λ x. implies (lit_in (step p x).makes l) (marked? (left_out t x) ks)) e o r) m)

    no_maker_but : (o : ℕ) (l : Literal) (t : ℕ) → no_maker_but? ks o l t ≡ true
        → (o' : ℕ) → o' < steps p → (o' ≡ o → ⊥) → lit_in (step p o').makes l ≡ true → M (left_out t o') ≡ true
    no_maker_but o l t e o' r d m =
        ⊎_elim
        (λ q. absurd (d (eqb-true o' o q)))
        (λ q. known (left_out t o') q)
        (or_cases (eqb o' o) (marked? (left_out t o') ks) (implied (lit_in (step p o').makes l) (eqb o' o || marked? (left_out t o') ks)
        (all_below_at (steps p) (λ x. implies (lit_in (step p x).makes l) (eqb x o || marked? (left_out t x) ks)) e o' r) m))

    within : (t o : ℕ) → within? t o ≡ true → (t < T) × (o < steps p)
    within t o e = let d = and_parts (ltb t T) (ltb o (steps p)) e in (ltb-true t T d.0, ltb-true o (steps p) d.1)

    concluded : (r : Rule) → applies? r ks ≡ true → M (conclusion r) ≡ true
    concluded (at_start l) e = let d = and_parts (ltb (fact l) p.facts) (value (start_state p) l) e in closed.frame.start l (ltb-true (fact l) p.facts d.0) d.1
    concluded (at_goal l) e = closed.frame.goal l e
    concluded (need t o l) e = let d = and_parts (marked? (taken t o) ks) (lit_in (step p o).needs l) e in closed.frame.needs t o l (known (taken t o) d.0) d.1
    concluded (make t o l) e = let d = and_parts (marked? (taken t o) ks) (lit_in (step p o).makes l) e in closed.frame.makes t o l (known (taken t o) d.0) d.1
    concluded (need_false t o l) e =
        let d = and_parts (within? t o) (lit_in (step p o).needs l && marked? (false_at l t) ks) e in
        let w = within t o d.0 in
        let f = and_parts (lit_in (step p o).needs l) (marked? (false_at l t) ks) d.1 in
        closed.need_false t o l w.0 w.1 f.0 (known (false_at l t) f.1)
    concluded (make_false t o l) e =
        let d = and_parts (within? t o) (lit_in (step p o).makes l && marked? (false_at l (suc t)) ks) e in
        let w = within t o d.0 in
        let f = and_parts (lit_in (step p o).makes l) (marked? (false_at l (suc t)) ks) d.1 in
        closed.make_false t o l w.0 w.1 f.0 (known (false_at l (suc t)) f.1)
    concluded (only t o l) e =
        let turns : Bool = marked? (false_at l t) ks && marked? (true_at l (suc t)) ks in
        let d = and_parts (within? t o) (lit_in (step p o).makes l && (no_maker_but? ks o l t && turns)) e in
        let w = within t o d.0 in
        let f = and_parts (lit_in (step p o).makes l) (no_maker_but? ks o l t && turns) d.1 in
        let g = and_parts (no_maker_but? ks o l t) turns f.1 in
        let h = and_parts (marked? (false_at l t) ks) (marked? (true_at l (suc t)) ks) g.1 in
        closed.only_maker t o l w.0 w.1 f.0 (no_maker_but o l t g.0) (known (false_at l t) h.0) (known (true_at l (suc t)) h.1)
    concluded (rival t o o' l) e =
        let clash : Bool = undoes_at? o o' l || undoes_at? o' o l in
        let d = and_parts (within? t o') (marked? (taken t o) ks && (not (eqb o o') && clash)) e in
        let f = and_parts (marked? (taken t o) ks) (not (eqb o o') && clash) d.1 in
        let g = and_parts (not (eqb o o')) clash f.1 in
        let meet : Interfere p o o' = (
          eqb-false o o' (not-true (eqb o o') g.0),
          ⊎_elim (λ u. inl (undoes_at o o' l u)) (λ u. inr (undoes_at o' o l u)) (or_cases (undoes_at? o o' l) (undoes_at? o' o l) g.1),
        ) in
        closed.frame.rivals t o o' (within t o' d.0).1 (known (taken t o) f.0) meet
    concluded (stay t l) e =
        let d = and_parts (ltb t T) (no_maker? ks l t && marked? (false_at l t) ks) e in
        let f = and_parts (no_maker? ks l t) (marked? (false_at l t) ks) d.1 in
        closed.frame.stays_false t l (ltb-true t T d.0) (no_maker l t f.0) (known (false_at l t) f.1)

    more : (m : Mark) → M m ≡ true → AllIn M (m ∷ ks)
    more m h n e =
        ⊎_elim
        (λ q. subst (λ (x : Mark). M x ≡ true) (sym (same_mark n m q)) h)
        (known n)
        (or_cases (same_mark? n m) (marked? n ks) e)

  -- whether the marks that the applications add, one after another, pass the test
  abbrev pub derives? : List Rule → List Mark → (List Mark → Bool) → Bool
  derives? [] ks test = test ks
  derives? (r ∷ rs) ks test = elim (applies? r ks) [ true ↦ derives? rs (conclusion r ∷ ks) test | false ↦ derives? rs ks test ]

  -- then a list that passes lies in every closed set
  pub derived : (V : Clauses) (M : Mark → Bool) → Closed p T pins V (λ m. M m ≡ true) → (rs : List Rule) (ks : List Mark) (test : List Mark → Bool)
      → AllIn M ks → derives? rs ks test ≡ true → (found : List Mark) × AllIn M found × (test found ≡ true)
  derived V M closed [] ks test known e = (ks, known, e)
  derived V M closed (r ∷ rs) ks test known e =
      let way : Bool → Type 0 = λ b. elim b [ true ↦ derives? rs (conclusion r ∷ ks) test | false ↦ derives? rs ks test ] ≡ true in
      ⊎_elim
      (λ q. derived V M closed rs (conclusion r ∷ ks) test (more V M closed ks known (conclusion r) (concluded V M closed ks known r q)) (subst way q e))
      (λ q. derived V M closed rs ks test known (subst way q e))
      (cases_Bool (applies? r ks))
