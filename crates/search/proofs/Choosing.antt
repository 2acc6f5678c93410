-- One choice more is one mark more among what is given. Assumes nothing.
use Rattle.std.proofs.Common.{◌≡◌, ℕ, ◌<◌, Bool, true, false, cond, ◌||◌, ltb, ◌⊎◌, List, [], ◌∷◌, ◌++◌, sym, refl, ap, ◌∙◌, inl, inr, ⊎_elim}
use Rattle.std.proofs.lemmas.Bool.{both_ways, cases_Bool, cond-true, cond-false, and_parts, and_from, or_cases, or_left, or_right, lt-ltb}
use Rattle.sets.specs.Sets.{step_in}
use Rattle.model.specs.declared.cell.Cell.{Cell}
use Rattle.model.specs.declared.path.Side.{Side}
use Rattle.model.specs.declared.path.Side.TheVariants as side
use Rattle.model.specs.declared.path.Entry.{Entry}
use Rattle.model.specs.Plans.{Pin, Pins, unpinned}
use Rattle.marks.specs.declared.mark.Mark.{Mark}
use Rattle.marks.specs.declared.mark.Mark.TheVariants.{Fact, Taken, LeftOut}
use Rattle.marks.specs.declared.index.Index.{Index}
use Rattle.marks.specs.Rules.{OneMore, seeds}
use Rattle.marks.specs.Pinning.{says_take, says_leave}
use Rattle.marks.specs.Deciding.{mark_of}
use Rattle.search.specs.Pinned.{pin_of, is_cell, with_path}
use Rattle.search.proofs.PinnedPath.{at_cell, own_cell}
use Rattle.search.proofs.Seeing.{no_pin}

-- a pin of a cell that has none yet
pub pinned_here : (pins : Pins) (path : List Entry) (e : Entry) (t o : ℕ) → is_cell e.cell t o ≡ true → with_path pins path t o ≡ unpinned
    → with_path pins (path ++ (e ∷ [])) t o ≡ pin_of e.side
pinned_here pins [] e t o k h = cond-true _ _ _ k
pinned_here pins (x ∷ path) e t o k h = go (pinned_here pins path e t o k) (cases_Bool (is_cell x.cell t o))
  where
    go : (with_path pins path t o ≡ unpinned → with_path pins (path ++ (e ∷ [])) t o ≡ pin_of e.side)
        → (is_cell x.cell t o ≡ true) ⊎ (is_cell x.cell t o ≡ false) → with_path pins ((x ∷ path) ++ (e ∷ [])) t o ≡ pin_of e.side
    go later (inl j) = absurd (no_pin x.side (sym (cond-true _ _ _ j) ∙ h))
    go later (inr j) = cond-false _ _ _ j ∙ later (sym (cond-false _ _ _ j) ∙ h)

-- the other cells are as before
pub pinned_other : (pins : Pins) (path : List Entry) (e : Entry) (t o : ℕ) → is_cell e.cell t o ≡ false
    → with_path pins (path ++ (e ∷ [])) t o ≡ with_path pins path t o
pinned_other pins [] e t o k = cond-false _ _ _ k
pinned_other pins (x ∷ path) e t o k = ap (λ (y : Pin). cond (is_cell x.cell t o) (pin_of x.side) y) (pinned_other pins path e t o k)

-- what a side says as a pin
take_of : (s : Side) (c : Cell) → says_take (pin_of s) ≡ true → Taken c.time c.step ≡ mark_of s c
take_of side.LeftOut c h = cc
take_of side.Taken c h = refl

leave_of : (s : Side) (c : Cell) → says_leave (pin_of s) ≡ true → LeftOut c.time c.step ≡ mark_of s c
leave_of side.LeftOut c h = refl
leave_of side.Taken c h = cc

module _ (ix : Index) (T : ℕ) (pins : Pins) (path : List Entry) (c : Cell) (s : Side)
    (inside : c.time < T) (free : with_path pins path c.time c.step ≡ unpinned) where
  e : Entry
  e = record { cell = c; side = s }

  more : Pins
  more = with_path pins (path ++ (e ∷ []))

  old_free : (t o : ℕ) → is_cell c t o ≡ true → with_path pins path t o ≡ unpinned
  old_free t o k = let q = at_cell c t o k in
      cc (q.0, q.1, free)

  here : (t o : ℕ) → is_cell c t o ≡ true → more t o ≡ pin_of s
  unfolding e more
  here t o k = pinned_here pins path e t o k (old_free t o k)

  other : (t o : ℕ) → is_cell c t o ≡ false → more t o ≡ with_path pins path t o
  unfolding e more
  other t o k = pinned_other pins path e t o k

  -- nothing that was said is lost
  kept : (test : Pin → Bool) → test unpinned ≡ false → (t o : ℕ) → test (with_path pins path t o) ≡ true → test (more t o) ≡ true
  kept test n t o h = ⊎_elim
      (λ k. absurd (both_ways (test (with_path pins path t o)) (ap test (old_free t o k) ∙ n) h))
      (λ k. ap test (other t o k) ∙ h)
      (cases_Bool (is_cell c t o))

  -- what is said now was said, or is of the cell
  whence : (test : Pin → Bool) (t o : ℕ) → test (more t o) ≡ true → (test (with_path pins path t o) ≡ true) ⊎ ((is_cell c t o ≡ true) × (test (pin_of s) ≡ true))
  whence test t o h = ⊎_elim
      (λ k. inr (k, sym (ap test (here t o k)) ∙ h))
      (λ k. inl (sym (ap test (other t o k)) ∙ h))
      (cases_Bool (is_cell c t o))

  old : (y : Mark) → seeds ix (with_path pins path) T y ≡ true → seeds ix more T y ≡ true
  old (Fact t l) h = h
  old (Taken t o) h = let a = and_parts (ltb t T) (says_take (with_path pins path t o)) h in and_from _ _ a.0 (kept says_take refl t o a.1)
  old (LeftOut t o) h = let a = and_parts (ltb t T) (step_in ix.closed o || says_leave (with_path pins path t o)) h in
      and_from _ _ a.0 (⊎_elim (λ k. or_left _ _ k) (λ k. or_right _ _ (kept says_leave refl t o k)) (or_cases (step_in ix.closed o) (says_leave (with_path pins path t o)) a.1))

  own : (s' : Side) → s ≡ s' → seeds ix more T (mark_of s' c) ≡ true
  own side.LeftOut q = and_from _ _ (lt-ltb c.time T inside) (or_right _ _ (ap says_leave (here c.time c.step (own_cell c)) ∙ ap (λ (x : Side). says_leave (pin_of x)) q))
  own side.Taken q = and_from _ _ (lt-ltb c.time T inside) (ap says_take (here c.time c.step (own_cell c)) ∙ ap (λ (x : Side). says_take (pin_of x)) q)

  only : (y : Mark) → seeds ix more T y ≡ true → (seeds ix (with_path pins path) T y ≡ true) ⊎ (y ≡ mark_of s c)
  only (Fact t l) h = inl h
  only (Taken t o) h = let a = and_parts (ltb t T) (says_take (more t o)) h in ⊎_elim
      (λ k. inl (and_from _ _ a.0 k))
      (λ k. inr (let q = at_cell c t o k.0 in cc (q.0, q.1, take_of s c k.1)))
      (whence says_take t o a.1)
  only (LeftOut t o) h = let a = and_parts (ltb t T) (step_in ix.closed o || says_leave (more t o)) h in ⊎_elim
      (λ k. inl (and_from _ _ a.0 (or_left _ _ k)))
      (λ k. ⊎_elim
      (λ j. inl (and_from _ _ a.0 (or_right _ _ j)))
      (λ j. inr (let q = at_cell c t o j.0 in cc (q.0, q.1, leave_of s c j.1)))
      (whence says_leave t o k))
      (or_cases (step_in ix.closed o) (says_leave (more t o)) a.1)

  pub one_more : OneMore (seeds ix (with_path pins path) T) (mark_of s c) (seeds ix (with_path pins (path ++ (record { cell = c; side = s } ∷ []))) T)
  unfolding e more
  one_more = record { old = old; here = own s refl; only = only }
