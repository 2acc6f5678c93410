-- Complete marks without contradiction take the cells of a plan.
use Rattle.std.proofs.Common.{◌≡◌, ℕ, zero, suc, ◌<◌, ◌≤◌, Bool, true, ◌&&◌, ltb, ◌⊎◌, sym, subst, inl, inr, ⊎_elim, arith}
use Rattle.std.proofs.lemmas.Bool.{both_ways, cases_Bool, and_parts, and_from, ltb-true, lt-ltb}
use Rattle.sets.specs.Literals.{Literal, opposite, fact}
use Rattle.model.specs.Problems.{Problem, WellFormed, steps, Open, Makes, Holds}
use Rattle.model.specs.Plans.{Cells, Taken, IsPlan, state, Pins, take, Keeps}
use Rattle.model.specs.Marks.{Mark, true_at, taken, left_out, NoMaker, Frame, Contradiction, cells_of}
use Rattle.model.specs.Theorems.{MarksPlan}
use Rattle.model.proofs.States.{opposite_opposite, fact_opposite, one_of, comes_from}

module _ (p : Problem) (T : ℕ) (pins : Pins) (M : Mark → Bool) (wf : WellFormed p)
    (pinned : (t o : ℕ) → pins t o ≡ take → (t < T) × (o < steps p))
    (frame : Frame p T pins (λ m. M m ≡ true))
    (complete : (t o : ℕ) → t < T → o < steps p → (M (taken t o) ≡ true) ⊎ (M (left_out t o) ≡ true))
    (agree : Contradiction (λ m. M m ≡ true) → ⊥) where
  abbrev c : Cells
  c = cells_of p T M

  abbrev Marked : Mark → Type 0
  Marked m = M m ≡ true

  marked : (t o : ℕ) → Taken c t o → (t < T) × (o < steps p) × Marked (taken t o)
  marked t o h = let a = and_parts (ltb t T && ltb o (steps p)) (M (taken t o)) h in
      let b = and_parts (ltb t T) (ltb o (steps p)) a.0 in
      (ltb-true t T b.0, ltb-true o (steps p) b.1, a.1)

  takes : (t o : ℕ) → t < T → o < steps p → Marked (taken t o) → Taken c t o
  takes t o r q h = and_from (ltb t T && ltb o (steps p)) (M (taken t o)) (and_from (ltb t T) (ltb o (steps p)) (lt-ltb t T r) (lt-ltb o (steps p) q)) h

  within : (t o : ℕ) → Taken c t o → (t < T) × (o < steps p)
  within t o h = ((marked t o h).0, (marked t o h).1)

  -- a step that is left out is not taken
  out : (t o : ℕ) → Taken c t o → Marked (left_out t o) → ⊥
  out t o h k = agree (inr (t, o, (marked t o h).2, k))

  no_maker : (t : ℕ) (l : Literal) → t < T → ((o : ℕ) → Taken c t o → Makes p o l → ⊥) → NoMaker p T pins Marked l t
  no_maker t l r h o q m = ⊎_elim (λ k. absurd (h o (takes t o r q k) m)) (λ k. k) (complete t o r q)

  -- what holds in a state is marked true
  state_marked : (t : ℕ) (l : Literal) → t ≤ T → fact l < p.facts → Holds (state p c t) l → Marked (true_at l t)
  state_marked zero l r q h = frame.start l q h
  state_marked (suc t) l r q h = ⊎_elim
      (λ e. frame.makes t e.0 l (marked t e.0 e.1).2 e.2)
      (λ e. subst (λ x. Marked (true_at x (suc t))) (opposite_opposite l)
      (frame.stays_false t (opposite l) r (no_maker t (opposite l) r e.1)
      (subst (λ x. Marked (true_at x t)) (sym (opposite_opposite l)) (state_marked t l (omega arith) q e.0))))
      (comes_from p T c within t l h)

  -- what is marked true holds
  holds : (t : ℕ) (l : Literal) → t ≤ T → fact l < p.facts → Marked (true_at l t) → Holds (state p c t) l
  holds t l r q h = ⊎_elim (λ e. e)
      (λ e. absurd (agree (inl (l, t, h, state_marked t (opposite l) r (subst (λ x. x < p.facts) (sym (fact_opposite l)) q) e))))
      (one_of (state p c t) l)

  is_open : (t o : ℕ) → Taken c t o → Open p o
  is_open t o h = ⊎_elim (λ e. e)
      (λ e. absurd (out t o h (frame.closed t o (within t o h).0 (within t o h).1 (λ k. both_ways _ e k))))
      (cases_Bool _)

  plan : IsPlan p T c
  plan = record {
    within = within;
    opens = is_open;
    apart = λ t o o' h k d. out t o' k (frame.rivals t o o' (within t o' k).1 (marked t o h).2 d);
    ready = λ t o l h n. holds t l (omega (arith, (within t o h).0)) (wf.needs_in_range o l n) (frame.needs t o l (marked t o h).2 n);
    reaches = λ l g. holds T l (omega arith) (wf.goal_in_range l g) (frame.goal l g);
  }

  keeps : Keeps pins c
  keeps = record {
    takes = λ t o e. takes t o (pinned t o e).0 (pinned t o e).1 (frame.pinned_in t o (pinned t o e).0 (pinned t o e).1 e);
    leaves = λ t o e. ⊎_elim
        (λ h. absurd (out t o h (frame.pinned_out t o (within t o h).0 (within t o h).1 e))) (λ k. k) (cases_Bool (c t o));
  }

pub marks_plan : MarksPlan
marks_plan p T pins M wf pinned frame complete agree = (plan p T pins M wf pinned frame complete agree, keeps p T pins M wf pinned frame complete agree)
