-- What a search keeps true, through a choice and its taking back. Assumes nothing.
use Rattle.std.proofs.Common.{◌≡◌, ℕ, suc, ◌+◌, ◌*◌, ◌<◌, ◌≤◌, true, false, ◌≢◌, List, [], ◌∷◌, ◌++◌, length, get_or, take, set, sym, refl, ap, ◌∙◌, subst, ⊎_elim, add-one, arith, get_or-set_other, get_or-set_same, Option}
use Rattle.std.proofs.lemmas.List.{append_assoc, take_more_set}
use Rattle.std.proofs.lemmas.Bool.{cases_eq, and_from, or_left, or_right, lt-ltb}
use Rattle.model.specs.declared.cell.Cell.{Cell}
use Rattle.model.specs.declared.path.Side.{Side}
use Rattle.model.specs.declared.path.Side.TheVariants as side
use Rattle.model.specs.declared.path.Entry.{Entry}
use Rattle.model.specs.Problems.{Problem, WellFormed, steps}
use Rattle.model.specs.Plans.{Cells, Pins, unpinned}
use Rattle.model.specs.Clauses.{Clauses, Largest}
use Rattle.model.specs.Paths.{taken}
use Rattle.model.specs.Choices.{Absent, Fair}
use Rattle.model.specs.Firsts.{Places, Ordered, Such}
use Rattle.model.specs.Kept.{Kept}
use Rattle.model.proofs.Keeping.{fair_front, kept_none}
use Rattle.marks.specs.declared.mark.Mark.{Mark}
use Rattle.marks.specs.declared.mark.Mark.TheVariants.{Taken, LeftOut}
use Rattle.marks.specs.declared.tables.Marks.{Marks}
use Rattle.marks.specs.declared.index.Index.{Index}
use Rattle.marks.specs.declared.cells.CellSides.{CellSides}
use Rattle.marks.specs.Grows.{on, Grows, Retreated}
use Rattle.marks.specs.Rules.{seeds}
use Rattle.marks.specs.Cells.{CellsOf}
use Rattle.marks.specs.Deciding.{mark_of, Decided, Begun}
use Rattle.marks.specs.Pinning.{says_take, says_leave}
use Rattle.marks.specs.Meaning.{Means}
use Rattle.marks.proofs.Undone.{restored}
use Rattle.search.specs.declared.level.Level.{Level}
use Rattle.search.specs.Pinned.{pin_of, with_path, InRange}
use Rattle.search.specs.Levels.{cell_at, no_level, entry_of, path_at, told, Lower}
use Rattle.search.specs.Ordering.{places_in}
use Rattle.search.specs.Sound.{Sound}
use Rattle.search.proofs.PinnedPath.{own_cell, with_absent}
use Rattle.search.proofs.Choosing.{one_more, pinned_here}
use Rattle.search.proofs.Stepping.{path_more, path_suc, path_set, lower_grows, grows_back, levels_grow, levels_set}

-- the front of a kept path is kept
module _ (S : Cells → Type 0) (T m : ℕ) (pins : Pins) (o : Places) where
  pub kept_front : (path more : List Entry) → Kept S T m pins o (path ++ more) → Kept S T m pins o path
  kept_front path more k = record {
    none_left = λ p s l. k.none_left p s (l.0, l.1, l.2 ++ more, ap (λ z. z ++ more) l.3 ∙ append_assoc l.0 (taken l.1 ∷ l.2) more, l.4, l.5);
    fair = fair_front T m pins path more k.fair;
    lowest = λ before e behind q. k.lowest before e (behind ++ more) (ap (λ z. z ++ more) q ∙ append_assoc before (e ∷ behind) more);
  }

-- the last entry of a fair path: in range, unpinned, and absent before it
abbrev LastFair : ℕ → ℕ → Pins → List Entry → Entry → Type 0
LastFair T m pins path e = (e.cell.time < T) × (e.cell.step < m) × (pins e.cell.time e.cell.step ≡ unpinned) × Absent e.cell path

pub last_fair : (T m : ℕ) (pins : Pins) (path : List Entry) (e : Entry) → Fair T m pins (path ++ (e ∷ [])) → LastFair T m pins path e
last_fair T m pins [] e f = (f.0, f.1, f.2, tt)
last_fair T m pins (x ∷ path) e f = let r = last_fair T m pins path e f.4 in
    (r.0, r.1, r.2, ((λ q. not_end path f.3 (sym q)), r.3))
  where
    not_end : (path : List Entry) → Absent x.cell (path ++ (e ∷ [])) → e.cell ≡ x.cell → ⊥
    not_end [] a q = a.0 q
    not_end (y ∷ path) a q = not_end path a.1 q

module _ {p : Problem} {V : Clauses} {ix : Index} {T : ℕ} {order : List Cell} {pins : Pins} {root : Option CellSides} where
  -- a choice of a cell: its mark is among what is given now
  pub sound_choose : {m m' : Marks} {ls : List Level} {n : ℕ} (l : Level) → Sound p V ix T order pins root m ls n → n < length ls
      → l.place < T * steps p → m.conflict ≡ false → l.trail ≡ m.len → Lower m order l.place
      → Kept (Such p T pins) T (steps p) pins (places_in order) (path_at order ls n ++ (entry_of order l ∷ []))
      → Decided ix m (mark_of l.side (cell_at order l.place)) m'
      → Sound p V ix T order pins root m' (set ls n l) (suc n)
  sound_choose {m} {m'} {ls} {n} l s room inside calm trail low kept d = record {
    well = s.well;
    largest = s.largest;
    means = s.means;
    ordered = s.ordered;
    range = s.range;
    rooted = s.rooted;
    long = d.grows.same_length ∙ s.long;
    rest = rw path'
        (d.rest (seeds ix (with_path pins old) T) (seeds ix (with_path pins (old ++ (entry_of order l ∷ []))) T)
        (one_more ix T pins old (cell_at order l.place) l.side fair.0 (with_absent pins old (cell_at order l.place) fair.3 ∙ fair.2))
        s.rest);
    levels = (
      m,
      calm,
      s.long,
      rw same (sym trail),
      rw (path_set order ls n n l (omega arith)) s.rest,
      rw same low,
      d.grows,
      levels_set ix T pins order ls n l n m (omega arith) s.levels,
    );
    placed = λ k h. ⊎_elim
        (λ (e : k ≡ n). rw (e, same) inside)
        (λ (ne : k ≢ n). rw get_or-set_other (s.placed k (omega arith)))
        (cases_eq k n);
    kept = rw path' kept;
  }
    where
      old : List Entry
      old = path_at order ls n

      same : get_or (set ls n l) n no_level ≡ l
      same = rw get_or-set_same

      path' : path_at order (set ls n l) (suc n) ≡ path_at order ls n ++ (entry_of order l ∷ [])
      path' = path_more order ls (set ls n l) n (suc n) l (ap (λ (k : ℕ). take k (set ls n l)) (sym (add-one n)) ∙ take_more_set ls n l room)

      fair : LastFair T (steps p) pins (path_at order ls n) (entry_of order l)
      fair = last_fair T (steps p) pins (path_at order ls n) (entry_of order l) kept.fair

  -- the newest choice taken back: the marks are those before it
  module _ {m : Marks} {ls : List Level} {n : ℕ} (s : Sound p V ix T order pins root m ls (suc n)) (room : n < length ls) where
    pub trail_within : (get_or ls n no_level).trail ≤ m.len
    trail_within = omega (arith, s.levels.3, s.levels.6.longer)

    pub undo_path : path_at order ls (suc n) ≡ path_at order ls n ++ (entry_of order (get_or ls n no_level) ∷ [])
    undo_path = path_suc order ls n room

    module _ {m' : Marks} (r : Retreated m (get_or ls n no_level).trail m') where
      back : Retreated m s.levels.0.len m'
      back = rw s.levels.3 r

      grown : Grows s.levels.0 m'
      grown = grows_back s.levels.0 m m' s.levels.1 s.levels.6 back

      pub sound_undo : Sound p V ix T order pins root m' ls n
      sound_undo = record {
        well = s.well;
        largest = s.largest;
        means = s.means;
        ordered = s.ordered;
        range = s.range;
        rooted = s.rooted;
        long = r.same_length ∙ s.long;
        rest = restored m m' (get_or ls n no_level).trail r ix (seeds ix (with_path pins (path_at order ls n)) T) s.levels.0 s.levels.1 s.levels.3 s.levels.6 s.levels.4;
        levels = levels_grow ix T pins order ls n grown s.levels.7;
        placed = λ k h. s.placed k (omega arith);
        kept = kept_front (Such p T pins) T (steps p) pins (places_in order) (path_at order ls n) (entry_of order (get_or ls n no_level) ∷ [])
            (subst (Kept (Such p T pins) T (steps p) pins (places_in order)) undo_path s.kept);
      }

      pub undo_lower : Lower m' order (get_or ls n no_level).place
      undo_lower = lower_grows grown order (get_or ls n no_level).place s.levels.5

  -- a search begins with an empty path, and the marks of the pins alone
  pub sound_begin : {m : Marks} {ls : List Level} {n : ℕ} → WellFormed p → Largest p V → Means ix p V → Ordered T (steps p) (places_in order)
      → InRange pins T (steps p) → Begun ix pins T m → CellsOf m root → n ≡ 0 → Sound p V ix T order pins root m ls n
  sound_begin {m} {ls} well largest means ordered range b k none = subst (Sound p V ix T order pins root m ls) (sym none) (record {
    well = well;
    largest = largest;
    means = means;
    ordered = ordered;
    range = range;
    rooted = (m, b.the_length, b.rest, k);
    long = b.the_length;
    rest = b.rest;
    levels = tt;
    placed = λ i h. absurd (omega arith);
    kept = kept_none (Such p T pins) T (steps p) pins (places_in order);
  })

  -- behind the newest choice: every cell up to and with its own has a mark
  pub beyond_lower : {m : Marks} {ls : List Level} {n : ℕ} → Sound p V ix T order pins root m ls (suc n) → n < length ls → m.conflict ≡ false
      → Lower m order ((get_or ls n no_level).place + 1)
  beyond_lower {m} {ls} {n} s room calm k h = ⊎_elim
      (λ (q : k ≡ l.place). subst (λ (i : ℕ). told m (cell_at order i) ≡ true) (sym q) (own l.side refl))
      (λ (ne : k ≢ l.place). lower_grows s.levels.6 order l.place s.levels.5 k (omega arith))
      (cases_eq k l.place)
    where
      l : Level
      l = get_or ls n no_level

      c : Cell
      c = cell_at order (get_or ls n no_level).place

      path : List Entry
      path = path_at order ls n

      whole : path_at order ls (suc n) ≡ path_at order ls n ++ (entry_of order (get_or ls n no_level) ∷ [])
      whole = path_suc order ls n room

      fair : LastFair T (steps p) pins (path_at order ls n) (entry_of order (get_or ls n no_level))
      fair = last_fair T (steps p) pins (path_at order ls n) (entry_of order (get_or ls n no_level)) (subst (Fair T (steps p) pins) whole s.kept.fair)

      pinned : with_path pins (path_at order ls (suc n)) c.time c.step ≡ pin_of l.side
      pinned = ap (λ (z : List Entry). with_path pins z c.time c.step) whole
          ∙ pinned_here pins path (entry_of order l) c.time c.step (own_cell c) (with_absent pins path c fair.3 ∙ fair.2)

      marked : (x : Mark) → seeds ix (with_path pins (path_at order ls (suc n))) T x ≡ true → on m x ≡ true
      marked x q = s.rest.exact.complete calm x (λ M k z. z x q)

      own : (x : Side) → l.side ≡ x → told m c ≡ true
      own side.LeftOut q = or_right (on m (Taken c.time c.step)) _ (marked (LeftOut c.time c.step)
          (and_from _ _ (lt-ltb c.time T fair.0) (or_right _ _ (ap says_leave (pinned ∙ ap pin_of q)))))
      own side.Taken q = or_left _ _ (marked (Taken c.time c.step) (and_from _ _ (lt-ltb c.time T fair.0) (ap says_take (pinned ∙ ap pin_of q))))
