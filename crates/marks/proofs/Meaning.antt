-- The rules over the index are the rules of the problem that it means. Assumes nothing.
use Rattle.std.proofs.Common.{◌≡◌, ℕ, suc, ◌+◌, ◌<◌, Bool, true, ◌&&◌, ◌||◌, eqb, ltb, get_or, sym, refl, ap, ◌∙◌, subst, inl, inr, ⊎_elim, add-one}
use Rattle.std.proofs.lemmas.Bool.{both_ways, cases_lt, eq-eqb, and_parts, and_from, or_cases, or_left, or_right, eqb-true, ltb-true, lt-ltb}
use Rattle.std.proofs.lemmas.List.{get_or_past}
use Rattle.sets.specs.Literals.{Literal, opposite, fact, lit, code}
use Rattle.sets.specs.Sets.{step_in, lit_in, no_literals, no_steps}
use Rattle.sets.proofs.Literals.{lit_code, opposite_opposite}
use Rattle.model.specs.declared.step.Step.{Step}
use Rattle.model.specs.Problems.{Problem, closed_step, steps, step, start_state, Holds}
use Rattle.model.specs.Plans.{Pins as PinsOf}
use Rattle.model.specs.Clauses.{Clauses}
use Rattle.model.specs.Marks.{true_at, taken, left_out, Mark as MarkOf, Frame, Closed, Forced as ForcedBy, Contradiction as ContradictionOf}
use Rattle.marks.specs.declared.mark.Mark.{Mark}
use Rattle.marks.specs.declared.mark.Mark.TheVariants.{Fact, Taken, LeftOut}
use Rattle.marks.specs.declared.tables.Marks.{Marks}
use Rattle.marks.specs.declared.index.Index.{Index}
use Rattle.marks.specs.Tables.{number_in, opp, opp_lit}
use Rattle.marks.specs.Pinning.{says_take, says_leave, Within}
use Rattle.marks.specs.Grows.{on}
use Rattle.marks.specs.Rules.{Maker, Makes, Follows, Rules, Forced, Exactly, seeds}
use Rattle.marks.specs.Rules.{Follows.f_stays_false, Follows.f_was_true, Follows.f_only_maker}
use Rattle.marks.specs.Meaning.{encode, decode, Means, Tells}
use Rattle.marks.specs.Theorems.{ExactlyTells, SeedsBound, RestClosed}
use Rattle.marks.proofs.Trail.{opp_lit_opp}
use Rattle.model.proofs.Fitting.{no_literal}
use Rattle.marks.proofs.Pinning.{take_said, leave_said}
use Rattle.marks.proofs.Closure.{exactly_rules}

-- ---- literals and their numbers

pub lit_opp : (l : ℕ) → lit (opp_lit l) ≡ opposite (lit l)
unfolding opp_lit
lit_opp l = lit_code (opposite (lit l))

pub code_opp : (l : Literal) → code (opposite l) ≡ opp_lit (code l)
unfolding opp_lit
code_opp l = ap (λ (z : Literal). code (opposite z)) (sym (lit_code l))

pub opp_back : (l : ℕ) → opposite (lit (opp_lit l)) ≡ lit l
opp_back l = ap opposite (lit_opp l) ∙ opposite_opposite (lit l)

-- ---- steps beyond the count need and make nothing

pub needs_within : (p : Problem) (o : ℕ) (l : Literal) → lit_in (step p o).needs l ≡ true → o < steps p
needs_within p o l h = ⊎_elim (λ e. e)
    (λ e. absurd (both_ways (lit_in (step p o).needs l) (ap (λ (s : Step). lit_in s.needs l) (get_or_past p.rows o closed_step e) ∙ no_literal l) h)) (cases_lt o (steps p))

pub makes_within : (p : Problem) (o : ℕ) (l : Literal) → lit_in (step p o).makes l ≡ true → o < steps p
makes_within p o l h = ⊎_elim (λ e. e)
    (λ e. absurd (both_ways (lit_in (step p o).makes l) (ap (λ (s : Step). lit_in s.makes l) (get_or_past p.rows o closed_step e) ∙ no_literal l) h)) (cases_lt o (steps p))

module _ (ix : Index) (T : ℕ) (p : Problem) (places : PinsOf) (V : Clauses) (w : Means ix p V) (fit : Within places (steps p)) where
  maker_makes : (l o : ℕ) → Maker ix l o → lit_in (step p o).makes (lit l) ≡ true
  maker_makes l o h = sym (w.makes o l) ∙ ix.makers_are o l ∙ h

  -- ---- a closed set of the problem's marks is closed under the rules over the index

  module _ (M : MarkOf → Bool) (k : Closed p T places V (λ x. M x ≡ true)) where
    In : Mark → Type 0
    In y = M (decode y) ≡ true

    at_opp : (l t : ℕ) → M (true_at (lit l) t) ≡ true → M (true_at (opposite (lit (opp_lit l))) t) ≡ true
    at_opp l t h = subst (λ (z : Literal). M (true_at z t) ≡ true) (sym (opp_back l)) h

    next : (l : Literal) (t : ℕ) → M (true_at l (suc t)) ≡ true → M (true_at l (t + 1)) ≡ true
    next l t h = subst (λ (u : ℕ). M (true_at l u) ≡ true) (sym (add-one t)) h

    next_back : (l : Literal) (t : ℕ) → M (true_at l (t + 1)) ≡ true → M (true_at l (suc t)) ≡ true
    next_back l t h = subst (λ (u : ℕ). M (true_at l u) ≡ true) (add-one t) h

    follows_in : (t l : ℕ) → t < T → (y : Mark) → Follows ix In t l y → In y
    unfolding In
    follows_in t l r y (f_stays_false n f) = next (lit (opp_lit l)) t (subst (λ (z : Literal). M (true_at z (suc t)) ≡ true) (sym (lit_opp l))
        (k.frame.stays_false t (lit l) r (λ o q h. n o (sym (ix.makers_are o l) ∙ w.makes o l ∙ h)) (subst (λ (z : Literal). M (true_at z t) ≡ true) (lit_opp l) f)))
    follows_in t l r y (f_was_true n f) =
        k.frame.was_true t (lit l) r (λ o q h. n o (sym (ix.makers_are o l) ∙ w.makes o l ∙ h)) (next_back (lit l) t f)
    follows_in t l r y (f_only_maker o h n f g) =
        k.only_maker t o (lit l) r (makes_within p o (lit l) (maker_makes l o h)) (maker_makes l o h)
        (λ i q d e. n i d (sym (ix.makers_are i l) ∙ w.makes i l ∙ e)) (subst (λ (z : Literal). M (true_at z t) ≡ true) (lit_opp l) f) (next_back (lit l) t g)

    rules_in : Rules ix T In In
    unfolding In
    rules_in = record {
      needs = λ t o l d n. k.frame.needs t o (lit l) d (sym (w.needs o l) ∙ n);
      makes = λ t o l d n. next (lit l) t (k.frame.makes t o (lit l) d (sym (w.makes o l) ∙ n));
      rivals = λ t o i d n. let c = w.rivals o i n in k.frame.rivals t o i c.0 d c.1;
      need_false = λ t l o r d n. let h = sym (w.needers (opp_lit l) o) ∙ n in
          k.need_false t o (lit (opp_lit l)) r (needs_within p o (lit (opp_lit l)) h) h (at_opp l t d);
      make_false = λ t l o r d n. let h = maker_makes (opp_lit l) o n in
          k.make_false t o (lit (opp_lit l)) r (makes_within p o (lit (opp_lit l)) h) h (at_opp l (suc t) (next_back (lit l) t d));
      clause = λ t l b d n. k.clause t (lit (opp_lit l)) (lit b) (sym (w.clauses (opp_lit l) b) ∙ n) (at_opp l t d);
      follows = follows_in;
    }

    seeds_in : (y : Mark) → seeds ix places T y ≡ true → In y
    unfolding In
    seeds_in (Fact t l) h = ⊎_elim
        (λ e. let a = and_parts (eqb t 0) (number_in ix.start l) e in let c = w.start l a.1 in
        subst (λ (u : ℕ). M (true_at (lit l) u) ≡ true) (sym (eqb-true t 0 a.0)) (k.frame.start (lit l) c.0 c.1))
        (λ e. let a = and_parts (eqb t T) (number_in ix.goal l) e in
        subst (λ (u : ℕ). M (true_at (lit l) u) ≡ true) (sym (eqb-true t T a.0)) (k.frame.goal (lit l) (sym (w.goal l) ∙ a.1)))
        (or_cases (eqb t 0 && number_in ix.start l) (eqb t T && number_in ix.goal l) h)
    seeds_in (Taken t o) h = let a = and_parts (ltb t T) (says_take (places t o)) h in let r = ltb-true t T a.0 in
        let e = take_said (places t o) a.1 in k.frame.pinned_in t o r (fit t o (inl e)) e
    seeds_in (LeftOut t o) h = let a = and_parts (ltb t T) (step_in ix.closed o || says_leave (places t o)) h in let r = ltb-true t T a.0 in
        ⊎_elim (λ e. let c = w.closed o e in k.frame.closed t o r c.0 c.1)
        (λ q. let e = leave_said (places t o) q in k.frame.pinned_out t o r (fit t o (inr e)) e)
        (or_cases (step_in ix.closed o) (says_leave (places t o)) a.1)

  decode_encode : (x : MarkOf) → decode (encode x) ≡ x
  decode_encode (true_at l t) = ap (λ (z : Literal). true_at z t) (lit_code l)
  decode_encode (taken t o) = refl
  decode_encode (left_out t o) = refl

  pub forced_decode : (y : Mark) → Forced ix T (seeds ix places T) y → ForcedBy p T places V (decode y)
  unfolding In
  forced_decode y f = λ M k. f (λ z. M (decode z)) (rules_in M k) (seeds_in M k)

  pub forced_from : (x : MarkOf) → Forced ix T (seeds ix places T) (encode x) → ForcedBy p T places V x
  forced_from x f = subst (ForcedBy p T places V) (decode_encode x) (forced_decode (encode x) f)

  -- ---- a set that is closed under the rules over the index is a closed set of the problem's marks

  needs_at : (o : ℕ) (l : Literal) → lit_in (step p o).needs l ≡ true → number_in (get_or ix.needs o no_literals) (code l) ≡ true
  needs_at o l h = w.needs o (code l) ∙ ap (lit_in (step p o).needs) (lit_code l) ∙ h

  makes_at : (o : ℕ) (l : Literal) → lit_in (step p o).makes l ≡ true → Makes ix o (code l)
  makes_at o l h = w.makes o (code l) ∙ ap (lit_in (step p o).makes) (lit_code l) ∙ h

  maker_at : (o : ℕ) (l : Literal) → lit_in (step p o).makes l ≡ true → Maker ix (code l) o
  maker_at o l h = sym (ix.makers_are o (code l)) ∙ makes_at o l h

  of_maker : (o : ℕ) (l : Literal) → Maker ix (code l) o → lit_in (step p o).makes l ≡ true
  of_maker o l h = sym (ap (lit_in (step p o).makes) (lit_code l)) ∙ maker_makes (code l) o h

  opp_code : (l : Literal) → opp_lit (code (opposite l)) ≡ code l
  opp_code l = ap opp_lit (code_opp l) ∙ opp_lit_opp (code l)

  module _ (M : Mark → Bool) (k : Rules ix T (λ y. M y ≡ true) (λ y. M y ≡ true)) (s : (y : Mark) → seeds ix places T y ≡ true → M y ≡ true) where
    Out : MarkOf → Type 0
    Out x = M (encode x) ≡ true

    later : (l t : ℕ) → M (Fact (t + 1) l) ≡ true → M (Fact (suc t) l) ≡ true
    later l t h = subst (λ (u : ℕ). M (Fact u l) ≡ true) (add-one t) h

    later_back : (l t : ℕ) → M (Fact (suc t) l) ≡ true → M (Fact (t + 1) l) ≡ true
    later_back l t h = subst (λ (u : ℕ). M (Fact u l) ≡ true) (sym (add-one t)) h

    frame_out : Frame p T places Out
    unfolding Out
    frame_out = record {
      start = λ l r h. s (Fact 0 (code l)) (or_left _ _ (and_from _ _ (eq-eqb 0 0 refl)
          (w.all_start (code l) (subst (λ (z : Literal). fact z < p.facts) (sym (lit_code l)) r) (subst (Holds (start_state p)) (sym (lit_code l)) h))));
      goal = λ l h. s (Fact T (code l)) (or_right _ _ (and_from _ _ (eq-eqb T T refl) (w.goal (code l) ∙ ap (lit_in p.goal) (lit_code l) ∙ h)));
      pinned_in = λ t o r q e. s (Taken t o) (and_from _ _ (lt-ltb t T r) (ap says_take e));
      pinned_out = λ t o r q e. s (LeftOut t o) (and_from _ _ (lt-ltb t T r) (or_right _ _ (ap says_leave e)));
      closed = λ t o r q e. s (LeftOut t o) (and_from _ _ (lt-ltb t T r) (or_left _ _ (w.all_closed o q e)));
      needs = λ t o l d n. k.needs t o (code l) d (needs_at o l n);
      makes = λ t o l d n. later (code l) t (k.makes t o (code l) d (makes_at o l n));
      rivals = λ t o i r d n. k.rivals t o i d (w.all_rivals o i r n);
      stays_false = λ t l r n f. later (code (opposite l)) t (subst (λ (z : ℕ). M (Fact (t + 1) z) ≡ true) (sym (code_opp l))
          (k.follows t (code l) r (Fact (t + 1) (opp_lit (code l)))
          (f_stays_false (λ o h. n o (makes_within p o l (of_maker o l h)) (of_maker o l h)) (subst (λ (z : ℕ). M (Fact t z) ≡ true) (code_opp l) f))));
      was_true = λ t l r n f. k.follows t (code l) r (Fact t (code l))
          (f_was_true (λ o h. n o (makes_within p o l (of_maker o l h)) (of_maker o l h)) (later_back (code l) t f));
    }

    closed_out : Closed p T places V Out
    unfolding Out
    closed_out = record {
      frame = frame_out;
      need_false = λ t o l r q n f. k.need_false t (code (opposite l)) o r f
          (subst (λ (z : ℕ). step_in (get_or ix.needers z no_steps) o ≡ true) (sym (opp_code l)) (w.needers (code l) o ∙ ap (lit_in (step p o).needs) (lit_code l) ∙ n));
      make_false = λ t o l r q n f. k.make_false t (code (opposite l)) o r (later_back (code (opposite l)) t f)
          (subst (λ (z : ℕ). Maker ix z o) (sym (opp_code l)) (maker_at o l n));
      only_maker = λ t o l r q m n f g. k.follows t (code l) r (Taken t o)
          (f_only_maker o (maker_at o l m) (λ i d h. n i (makes_within p i l (of_maker i l h)) d (of_maker i l h))
          (subst (λ (z : ℕ). M (Fact t z) ≡ true) (code_opp l) f) (later_back (code l) t g));
      clause = λ t a b v f. k.clause t (code (opposite a)) (code b) f
          (subst (λ (z : ℕ). number_in (get_or ix.clauses z no_literals) (code b) ≡ true) (sym (opp_code a))
          (w.clauses (code a) (code b) ∙ ap (λ (z : Literal). V z (lit (code b))) (lit_code a) ∙ ap (V a) (lit_code b) ∙ v));
    }

  pub forced_to : (x : MarkOf) → ForcedBy p T places V x → Forced ix T (seeds ix places T) (encode x)
  unfolding Out
  forced_to x f = λ M k s. f (λ z. M (encode z)) (closed_out M k s)

  pub contradiction_from : (y : Mark) → Forced ix T (seeds ix places T) y → Forced ix T (seeds ix places T) (opp y) → ContradictionOf (ForcedBy p T places V)
  contradiction_from (Fact t l) f g = inl (lit l, t, forced_decode (Fact t l) f, subst (λ (z : Literal). ForcedBy p T places V (true_at z t)) (lit_opp l) (forced_decode (Fact t (opp_lit l)) g))
  contradiction_from (Taken t o) f g = inr (t, o, forced_decode (Taken t o) f, forced_decode (LeftOut t o) g)
  contradiction_from (LeftOut t o) f g = inr (t, o, forced_decode (Taken t o) g, forced_decode (LeftOut t o) f)

  pub contradiction_to : ContradictionOf (ForcedBy p T places V) → (y : Mark) × Forced ix T (seeds ix places T) y × Forced ix T (seeds ix places T) (opp y)
  contradiction_to h = ⊎_elim
      (λ e. (
        Fact e.1 (code e.0),
        forced_to (true_at e.0 e.1) e.2,
        subst (λ (z : ℕ). Forced ix T (seeds ix places T) (Fact e.1 z)) (code_opp e.0) (forced_to (true_at (opposite e.0) e.1) e.3),
      ))
      (λ e. (Taken e.0 e.1, forced_to (taken e.0 e.1) e.2, forced_to (left_out e.0 e.1) e.3)) h

-- ---- what the marks tell

module _ (ix : Index) (p : Problem) (places : PinsOf) (V : Clauses) (m : Marks) (w : Means ix p V) (fit : Within places (steps p)) where
  pub tells : Exactly ix (seeds ix places m.length) m → Tells p places V m
  tells e = record {
    broken = λ h. let k = e.broken h in contradiction_from ix m.length p places V w fit k.0 k.1 k.2;
    whole = λ h. e.tells (contradiction_to ix m.length p places V w fit h);
    sound = λ x h. forced_from ix m.length p places V w fit x (e.sound (encode x) h);
    complete = λ f x h. e.complete f (encode x) (forced_to ix m.length p places V w fit x h);
  }

pub exactly_tells : ExactlyTells
exactly_tells ix p places V m w fit e = tells ix p places V m w fit e

pub seeds_bound : SeedsBound
unfolding In
seeds_bound ix p places V seed m w fit e M k s y h = e.sound y h (λ z. M (decode z)) (rules_in ix m.length p places V w fit M k) s

pub rest_closed : RestClosed
unfolding Out
rest_closed ix p places V seed m w fit e calm among =
    closed_out ix m.length p places V w fit (on m) (exactly_rules ix seed m e calm) (λ y h. e.complete calm y (λ M k s. s y (among y h)))
