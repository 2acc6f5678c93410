-- What marks at rest say of the plans that agree with the path. Assumes nothing.
use Rattle.std.proofs.Common.{◌≡◌, ℕ, ◌*◌, ◌<◌, Bool, true, false, ◌&&◌, ◌⊎◌, List, [], ◌∷◌, sym, refl, ap, ◌∙◌, subst, inl, inr, ⊎_elim, arith, Option}
use Rattle.std.proofs.lemmas.Bool.{both_ways, cases_Bool, cond-true, cond-false, and_from, or_cases, or_right, not-true, lt-ltb}
use Rattle.model.specs.declared.cell.Cell.{Cell}
use Rattle.model.specs.declared.path.Side.{Side}
use Rattle.model.specs.declared.path.Side.TheVariants as side
use Rattle.model.specs.declared.path.Entry.{Entry}
use Rattle.model.specs.Problems.{Problem, steps}
use Rattle.model.specs.Plans.{Cells, Pin, Pins, take, leave, unpinned, IsPlan, Keeps}
use Rattle.model.specs.Clauses.{Clauses}
use Rattle.model.specs.Marks.{true_at, taken, left_out, Mark as MarkOf, Frame, Closed, Contradiction as ContradictionOf, Forced as ForcedBy}
use Rattle.model.specs.Paths.{Agrees}
use Rattle.model.specs.Choices.{Absent, Fair}
use Rattle.model.specs.Firsts.{Such, NoneAgrees, Decided}
use Rattle.model.specs.Kept.{Next, Only}
use Rattle.model.proofs.ContradictionNone.{contradiction_none}
use Rattle.model.proofs.MarksSound.{marks_sound}
use Rattle.model.proofs.MarksPlan.{marks_plan}
use Rattle.model.proofs.KeptHold.{kept_hold}
use Rattle.marks.specs.declared.mark.Mark.TheVariants.{Taken, LeftOut}
use Rattle.marks.specs.declared.tables.Marks.{Marks}
use Rattle.marks.specs.declared.index.Index.{Index}
use Rattle.marks.specs.declared.cells.CellSides.{CellSides}
use Rattle.marks.specs.Grows.{on}
use Rattle.marks.specs.Rules.{Exactly, seeds}
use Rattle.marks.specs.Pinning.{Within, says_take, says_leave}
use Rattle.marks.specs.Meaning.{Tells, encode}
use Rattle.marks.specs.Deciding.{Undecided}
use Rattle.marks.proofs.Meaning.{exactly_tells, rest_closed}
use Rattle.search.specs.Pinned.{pin_of, is_cell, with_path, InRange}
use Rattle.search.specs.declared.level.Level.{Level}
use Rattle.search.specs.Levels.{cell_at, path_at, told, Lower, taken_by}
use Rattle.search.specs.Ordering.{places_in}
use Rattle.search.specs.Sound.{Sound}
use Rattle.search.proofs.PinnedPath.{keeps_with, with_keeps, at_cell, own_cell}

-- so too with the path as pins
pub path_in_range : (T m : ℕ) (pins : Pins) (path : List Entry) → InRange pins T m → Fair T m pins path → InRange (with_path pins path) T m
path_in_range T m pins [] r f t o h = r t o h
path_in_range T m pins (e ∷ path) r f t o h = ⊎_elim
    (λ k. let q = at_cell e.cell t o k in (omega (arith, q.0, f.0), omega (arith, q.1, f.1)))
    (λ k. path_in_range T m pins path r f.4 t o
    (⊎_elim (λ a. inl (sym (cond-false _ _ _ k) ∙ a)) (λ a. inr (sym (cond-false _ _ _ k) ∙ a)) h))
    (cases_Bool (is_cell e.cell t o))

pub no_pin : (s : Side) → pin_of s ≡ unpinned → ⊥
no_pin side.LeftOut e = cc
no_pin side.Taken e = cc

-- a cell without a pin of either kind is not on the path
pub free_absent : (pins : Pins) (path : List Entry) (c : Cell) → with_path pins path c.time c.step ≡ unpinned
    → Absent c path × (pins c.time c.step ≡ unpinned)
free_absent pins [] c h = (tt, h)
free_absent pins (e ∷ path) c h = go (free_absent pins path c) (cases_Bool (is_cell e.cell c.time c.step))
  where
    go : (with_path pins path c.time c.step ≡ unpinned → Absent c path × (pins c.time c.step ≡ unpinned))
        → (is_cell e.cell c.time c.step ≡ true) ⊎ (is_cell e.cell c.time c.step ≡ false) → Absent c (e ∷ path) × (pins c.time c.step ≡ unpinned)
    go later (inl k) = absurd (no_pin e.side (sym (cond-true _ _ _ k) ∙ h))
    go later (inr k) = let r = later (sym (cond-false _ _ _ k) ∙ h) in
        (((λ q. both_ways (is_cell e.cell c.time c.step) k (subst (λ (d : Cell). is_cell e.cell d.time d.step ≡ true) q (own_cell e.cell))), r.0), r.1)

module _ {p : Problem} {V : Clauses} {ix : Index} {T : ℕ} {order : List Cell} {pins : Pins} {root : Option CellSides} {m : Marks} {ls : List Level} {n : ℕ}
    (held : Sound p V ix T order pins root m ls n) where
  abbrev path : List Entry
  path = path_at order ls n

  places : Pins
  places = with_path pins path

  ranged : InRange places T (steps p)
  unfolding places
  ranged = path_in_range T (steps p) pins path held.range held.kept.fair

  exact : Exactly ix (seeds ix places m.length) m
  unfolding places
  exact = simp held.long held.rest.exact

  within : Within places (steps p)
  within t o h = (ranged t o h).1

  tells : Tells p places V m
  tells = exactly_tells ix p places V m held.means within exact

  sound : (x : MarkOf) → on m (encode x) ≡ true → ForcedBy p T places V x
  sound x h = simp held.long at (tells.sound x h)

  -- what the pins and the path say has its mark
  seeded : m.conflict ≡ false → (x : MarkOf) → seeds ix places T (encode x) ≡ true → on m (encode x) ≡ true
  unfolding places
  seeded calm x h = held.rest.exact.complete calm (encode x) (λ M k s. s (encode x) h)

  -- ---- the marks contradict

  pub seen_contradiction : m.conflict ≡ true → NoneAgrees (Such p T pins) path
  unfolding places
  seen_contradiction h c s a =
      contradiction_none p T places V held.well held.largest.kept (rw held.long at (tells.broken h)) c s.plan (keeps_with pins c path s.keeps a)

  -- ---- a cell that has a mark

  agrees_on : (c : Cells) → Such p T pins c → Agrees c path → (x : MarkOf) → on m (encode x) ≡ true → Rattle.model.specs.Marks.agrees p c x ≡ true
  unfolding places
  agrees_on c s a x h = marks_sound p T places V c held.well s.plan (keeps_with pins c path s.keeps a) (kept_hold p T V c held.well held.largest.kept s.plan) x (sound x h)

  taken_on : (c : Cells) → Such p T pins c → Agrees c path → (t o : ℕ) → on m (Taken t o) ≡ true → c t o ≡ true
  taken_on c s a t o h = agrees_on c s a (taken t o) h

  left_on : (c : Cells) → Such p T pins c → Agrees c path → (t o : ℕ) → on m (LeftOut t o) ≡ true → c t o ≡ false
  left_on c s a t o h = not-true (c t o) (agrees_on c s a (left_out t o) h)

  pub told_decided : (d : Cell) → told m d ≡ true → Decided (Such p T pins) path d
  told_decided d h c c' s s' a a' = ⊎_elim
      (λ k. taken_on c s a d.time d.step k ∙ sym (taken_on c' s' a' d.time d.step k))
      (λ k. left_on c s a d.time d.step k ∙ sym (left_on c' s' a' d.time d.step k))
      (or_cases (on m (Taken d.time d.step)) (on m (LeftOut d.time d.step)) h)

  -- ---- the lowest cell without a mark

  unpinned_at : m.conflict ≡ false → (d : Cell) → d.time < T → Undecided m d → places d.time d.step ≡ unpinned
  unpinned_at calm d r u = go (places d.time d.step) refl
    where
      go : (x : Pin) → places d.time d.step ≡ x → x ≡ unpinned
      go unpinned e = refl
      go take e = absurd (both_ways _ u.not_taken (seeded calm (taken d.time d.step) (and_from _ _ (lt-ltb d.time T r) (ap says_take e))))
      go leave e = absurd (both_ways _ u.not_left (seeded calm (left_out d.time d.step) (and_from _ _ (lt-ltb d.time T r) (or_right _ _ (ap says_leave e)))))

  pub seen_undecided : m.conflict ≡ false → (k : ℕ) → k < T * steps p → Undecided m (cell_at order k) → Lower m order k
      → Next (Such p T pins) T (steps p) pins (places_in order) path (cell_at order k)
  unfolding places
  seen_undecided calm k r u low = record {
    in_time = inside.0;
    in_count = inside.1;
    free = apart.1;
    absent = apart.0;
    lower = λ d a b h. let q : (places_in order).place d < k = rw (held.ordered.place_of_cell k r) at h in
        subst (Decided (Such p T pins) path) (held.ordered.cell_of_place d a b) (told_decided (cell_at order ((places_in order).place d)) (low ((places_in order).place d) q));
  }
    where
      inside : ((cell_at order k).time < T) × ((cell_at order k).step < steps p)
      inside = held.ordered.cell_below k r

      apart : Absent (cell_at order k) path × (pins (cell_at order k).time (cell_at order k).step ≡ unpinned)
      apart = free_absent pins path (cell_at order k) (unpinned_at calm (cell_at order k) inside.0 u)

  -- ---- every cell has a mark

  module _ (calm : m.conflict ≡ false) (all : Lower m order (T * steps p)) where
    told_at : (t o : ℕ) → t < T → o < steps p → (on m (Taken t o) ≡ true) ⊎ (on m (LeftOut t o) ≡ true)
    told_at t o r q =
        let c : Cell = record { time = t; step = o } in
        or_cases (on m (Taken t o)) (on m (LeftOut t o))
        (subst (λ (d : Cell). told m d ≡ true) (held.ordered.cell_of_place c r q) (all ((places_in order).place c) (held.ordered.place_below c r q)))

    never_both : (t o : ℕ) → on m (Taken t o) ≡ true → on m (LeftOut t o) ≡ true → ⊥
    never_both t o a b = both_ways m.conflict calm (tells.whole (inr (t, o, tells.sound (taken t o) a, tells.sound (left_out t o) b)))

    agree : ContradictionOf (λ x. on m (encode x) ≡ true) → ⊥
    agree (inl h) = both_ways m.conflict calm (tells.whole (inl (h.0, h.1, tells.sound (true_at h.0 h.1) h.2, tells.sound (Rattle.model.specs.Marks.false_at h.0 h.1) h.3)))
    agree (inr h) = never_both h.0 h.1 h.2 h.3

    frame : Frame p T places (λ x. on m (encode x) ≡ true)
    frame = simp held.long at (rest_closed ix p places V (seeds ix places m.length) m held.means within exact calm (λ y h. h)).frame

    plan : IsPlan p T (taken_by m p T) × Keeps places (taken_by m p T)
    plan = marks_plan p T places (λ x. on m (encode x)) held.well (λ t o e. ranged t o (inl e)) frame told_at agree

    keeps : Keeps pins (taken_by m p T) × Agrees (taken_by m p T) path
    unfolding places
    keeps = with_keeps T (steps p) pins (taken_by m p T) path held.kept.fair plan.1

    found_at : (t o : ℕ) → t < T → o < steps p → taken_by m p T t o ≡ on m (Taken t o)
    found_at t o r q = ap (λ (b : Bool). b && on m (Taken t o)) (and_from _ _ (lt-ltb t T r) (lt-ltb o (steps p) q))

    pub seen_whole : Only (Such p T pins) T (steps p) path (taken_by m p T)
    seen_whole = record {
      such = record { plan = plan.0; keeps = keeps.0 };
      agrees = keeps.1;
      alone = λ c s a t o r q. ⊎_elim
          (λ k. taken_on c s a t o k ∙ sym (found_at t o r q ∙ k))
          (λ k. left_on c s a t o k ∙ sym (found_at t o r q ∙ none t o k (cases_Bool (on m (Taken t o)))))
          (told_at t o r q);
    }
      where
        none : (t o : ℕ) → on m (LeftOut t o) ≡ true → (on m (Taken t o) ≡ true) ⊎ (on m (Taken t o) ≡ false) → on m (Taken t o) ≡ false
        none t o k (inl h) = absurd (never_both t o h k)
        none t o k (inr h) = h
