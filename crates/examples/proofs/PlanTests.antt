-- Tests that compute whether cells are a plan of a problem within the limits, and that they answer right.
use Rattle.std.proofs.Common.{◌≡◌, ℕ, zero, suc, ◌<◌, ◌≤◌, Bool, true, false, not, ◌&&◌, ◌||◌, eqb, ltb, List, [], ◌∷◌, length, sym, refl, subst, subst₂, ⊎_elim, arith}
use Rattle.std.proofs.lemmas.Bool.{both_ways, and_parts, and_from, or_cases, or_parts, not-true, not-false, ltb-true, eqb-true, cases_eq}
use Rattle.sets.specs.Literals.{Literal, pos, neg, opposite, fact}
use Rattle.sets.specs.Sets.{lit_in}
use Rattle.sets.specs.declared.facts.LiteralSet.{LiteralSet}
use Rattle.model.specs.declared.step.Step.{Step}
use Rattle.model.specs.Problems.{Problem, WellFormed, InRange, State, value, Holds, ◌∈◌, steps, step, Undoes, Interfere}
use Rattle.model.specs.Plans.{Cells, Taken, IsPlan, state}
use Rattle.model.proofs.States.{fact_opposite}
use Rattle.examples.specs.Plans.{listed, taking}

-- ---- numbers below a count, and literals of the facts below it

abbrev pub all_below : ℕ → (ℕ → Bool) → Bool
all_below zero test = true
all_below (suc n) test = test n && all_below n test

pub all_below_at : (n : ℕ) (test : ℕ → Bool) → all_below n test ≡ true → (k : ℕ) → k < n → test k ≡ true
all_below_at zero test h k l = absurd (omega arith)
all_below_at (suc n) test h k l =
    ⊎_elim
    (λ e. subst (λ (x : ℕ). test x ≡ true) (sym e) (and_parts (test n) (all_below n test) h).0)
    (λ d. all_below_at n test (and_parts (test n) (all_below n test) h).1 k (omega arith))
    (cases_eq k n)

pub all_below_from : (n : ℕ) (test : ℕ → Bool) → ((k : ℕ) → k < n → test k ≡ true) → all_below n test ≡ true
all_below_from zero test h = refl
all_below_from (suc n) test h = and_from (test n) (all_below n test) (h n (omega arith)) (all_below_from n test (λ k l. h k (omega arith)))

abbrev pub every : ℕ → (Literal → Bool) → Bool
every n test = all_below n (λ f. test (pos f) && test (neg f))

every_at : (n : ℕ) (test : Literal → Bool) → every n test ≡ true → (l : Literal) → fact l < n → test l ≡ true
every_at n test h (pos f) r = (and_parts (test (pos f)) (test (neg f)) (all_below_at n (λ x. test (pos x) && test (neg x)) h f r)).0
every_at n test h (neg f) r = (and_parts (test (pos f)) (test (neg f)) (all_below_at n (λ x. test (pos x) && test (neg x)) h f r)).1

pub every_from : (n : ℕ) (test : Literal → Bool) → ((l : Literal) → fact l < n → test l ≡ true) → every n test ≡ true
every_from n test h = all_below_from n (λ f. test (pos f) && test (neg f)) (λ f l. and_from (test (pos f)) (test (neg f)) (h (pos f) l) (h (neg f) l))

abbrev pub implies : Bool → Bool → Bool
implies a b = not a || b

pub implied : (a b : Bool) → implies a b ≡ true → a ≡ true → b ≡ true
implied true b h e = h
implied false b h e = absurd (both_ways false refl e)

pub implies_from : (a b : Bool) → (a ≡ true → b ≡ true) → implies a b ≡ true
implies_from true b h = h refl
implies_from false b h = refl

-- ---- interference

-- whether one step undoes what another needs or makes, of the literals of n facts
abbrev pub undoes? : ℕ → Step → Step → Bool
undoes? n a b = not (every n (λ l. implies (lit_in a.makes (opposite l)) (not (lit_in b.needs l || lit_in b.makes l))))

no_undoing : (p : Problem) → WellFormed p → (n : ℕ) → p.facts ≤ n → (o o' : ℕ) → undoes? n (step p o) (step p o') ≡ false → Undoes p o o' → ⊥
no_undoing p w n few o o' e u =
    let l = u.0 in
    let free : Literal → Bool = λ x. not (lit_in (step p o').needs x || lit_in (step p o').makes x) in
    let test : Literal → Bool = λ x. implies (lit_in (step p o).makes (opposite x)) (free x) in
    let within : fact l < p.facts = subst (λ (f : ℕ). f < p.facts) (fact_opposite l) (w.makes_in_range o (opposite l) u.1) in
    let passes : test l ≡ true = every_at n test (not-false (every n test) e) l (omega arith) in
    let none = or_parts (lit_in (step p o').needs l) (lit_in (step p o').makes l) (not-true _ (implied (lit_in (step p o).makes (opposite l)) (free l) passes u.1)) in
    ⊎_elim (λ q. both_ways _ none.0 q) (λ q. both_ways _ none.1 q) u.2

-- steps that are these do not interfere if neither undoes the other
pub tested_apart : (p : Problem) → WellFormed p → (n : ℕ) → p.facts ≤ n → (o o' : ℕ) (a b : Step) → step p o ≡ a → step p o' ≡ b
    → undoes? n a b ≡ false → undoes? n b a ≡ false → Interfere p o o' → ⊥
tested_apart p w n few o o' a b at at' e e' d =
    ⊎_elim
    (no_undoing p w n few o o' (subst₂ (λ (x y : Step). undoes? n x y ≡ false) (sym at) (sym at') e))
    (no_undoing p w n few o' o (subst₂ (λ (x y : Step). undoes? n x y ≡ false) (sym at') (sym at) e'))
    d.1

-- ---- plans

abbrev all_hold? : ℕ → State → LiteralSet → Bool
all_hold? n s set = every n (λ l. implies (lit_in set l) (value s l))

abbrev apart? : Problem → Cells → ℕ → ℕ → Bool
apart? p c t o = all_below (steps p) (λ o'. implies (c t o') (eqb o o' || not (undoes? p.facts (step p o) (step p o'))))

abbrev fits? : Problem → Cells → ℕ → ℕ → Bool
fits? p c t o = (step p o).enabled && (all_hold? p.facts (state p c t) (step p o).needs && apart? p c t o)

abbrev times_fit? : Problem → ℕ → Cells → Bool
times_fit? p T c = all_below T (λ t. all_below (steps p) (λ o. implies (c t o) (fits? p c t o)))

-- whether cells within their bounds are a plan
abbrev plan? : Problem → ℕ → Cells → Bool
plan? p T c = times_fit? p T c && all_hold? p.facts (state p c T) p.goal

module _ (p : Problem) (w : WellFormed p) (T : ℕ) (c : Cells) (within : (t o : ℕ) → Taken c t o → (t < T) × (o < steps p)) (h : plan? p T c ≡ true) where
  all_hold : (s : State) (set : LiteralSet) → InRange p set → all_hold? p.facts s set ≡ true → (l : Literal) → l ∈ set → Holds s l
  all_hold s set r e l i = implied (lit_in set l) (value s l) (every_at p.facts (λ x. implies (lit_in set x) (value s x)) e l (r l i)) i

  parts : (times_fit? p T c ≡ true) × (all_hold? p.facts (state p c T) p.goal ≡ true)
  parts = and_parts (times_fit? p T c) (all_hold? p.facts (state p c T) p.goal) h

  fits : (t o : ℕ) → Taken c t o → ((step p o).enabled ≡ true) × ((all_hold? p.facts (state p c t) (step p o).needs ≡ true) × (apart? p c t o ≡ true))
  fits t o k =
      let row : all_below (steps p) (λ x. implies (c t x) (fits? p c t x)) ≡ true =
      all_below_at T (λ y. all_below (steps p) (λ x. implies (c y x) (fits? p c y x))) parts.0 t (within t o k).0 in
      let here : fits? p c t o ≡ true = implied (c t o) (fits? p c t o) (all_below_at (steps p) (λ x. implies (c t x) (fits? p c t x)) row o (within t o k).1) k in
      let a = and_parts (step p o).enabled (all_hold? p.facts (state p c t) (step p o).needs && apart? p c t o) here in
      (a.0, and_parts (all_hold? p.facts (state p c t) (step p o).needs) (apart? p c t o) a.1)

  apart_by : (t o o' : ℕ) → Taken c t o → Taken c t o' → (o ≡ o' → ⊥) → Undoes p o o' → ⊥
  apart_by t o o' k k' d u =
      let test : ℕ → Bool = λ x. implies (c t x) (eqb o x || not (undoes? p.facts (step p o) (step p x))) in
      let here : (eqb o o' || not (undoes? p.facts (step p o) (step p o'))) ≡ true =
      implied (c t o') (eqb o o' || not (undoes? p.facts (step p o) (step p o'))) (all_below_at (steps p) test (fits t o k).1.1 o' (within t o' k').1) k' in
      ⊎_elim
      (λ e. d (eqb-true o o' e))
      (λ e. no_undoing p w p.facts (omega arith) o o' (not-true (undoes? p.facts (step p o) (step p o')) e) u)
      (or_cases (eqb o o') (not (undoes? p.facts (step p o) (step p o'))) here)

  tested_plan : IsPlan p T c
  tested_plan = record {
    within = within;
    opens = λ t o k. (fits t o k).0;
    apart = λ t o o' k k' d. ⊎_elim (λ u. apart_by t o o' k k' d.0 u) (λ u. apart_by t o' o k' k (λ e. d.0 (sym e)) u) d.1;
    ready = λ t o l k n. all_hold (state p c t) (step p o).needs (w.needs_in_range o) (fits t o k).1.0 l n;
    reaches = all_hold (state p c T) p.goal w.goal_in_range parts.1;
  }

-- ---- plans told by the steps of each time

abbrev steps_below? : ℕ → List ℕ → Bool
steps_below? m [] = true
steps_below? m (o ∷ os) = ltb o m && steps_below? m os

abbrev times_below? : ℕ → List (List ℕ) → Bool
times_below? m [] = true
times_below? m (os ∷ times) = steps_below? m os && times_below? m times

listed_below : (m : ℕ) (os : List ℕ) → steps_below? m os ≡ true → (o : ℕ) → listed o os ≡ true → o < m
listed_below m [] h o e = absurd (both_ways false refl e)
listed_below m (x ∷ os) h o e =
    ⊎_elim
    (λ q. subst (λ (y : ℕ). y < m) (sym (eqb-true o x q)) (ltb-true x m (and_parts (ltb x m) (steps_below? m os) h).0))
    (λ q. listed_below m os (and_parts (ltb x m) (steps_below? m os) h).1 o q)
    (or_cases (eqb o x) (listed o os) e)

pub taking_within : (m : ℕ) (times : List (List ℕ)) → times_below? m times ≡ true → (t o : ℕ) → Taken (taking times) t o → (t < length times) × (o < m)
taking_within m [] h t o e = absurd (both_ways false refl e)
taking_within m (os ∷ times) h zero o e = (omega arith, listed_below m os (and_parts (steps_below? m os) (times_below? m times) h).0 o e)
taking_within m (os ∷ times) h (suc t) o e =
    let r = taking_within m times (and_parts (steps_below? m os) (times_below? m times) h).1 t o e in (omega (arith, r.0), r.1)

abbrev pub lists_plan? : Problem → List (List ℕ) → Bool
lists_plan? p times = times_below? (steps p) times && plan? p (length times) (taking times)

pub lists_plan : (p : Problem) (times : List (List ℕ)) → WellFormed p → lists_plan? p times ≡ true → IsPlan p (length times) (taking times)
lists_plan p times w h =
    let a = and_parts (times_below? (steps p) times) (plan? p (length times) (taking times)) h in
    tested_plan p w (length times) (taking times) (taking_within (steps p) times a.0) a.1
