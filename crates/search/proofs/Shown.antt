-- What the kept truth of a search shows, taken out of its truncation. Assumes nothing.
use Rattle.std.proofs.Common.{◌≡◌, ℕ, suc, ◌+◌, ◌-◌, ◌*◌, ◌<◌, ◌≤◌, true, false, List, [], ◌∷◌, ◌++◌, length, get_or, set, sym, ap, subst, add-one, arith, Option}
use native.Mathlib.Bridge.{le_prop}
use native.Mathlib.Nat.{ℕ_set}
use mathlib.Core.Bool.{Bool-set}
use mathlib.Core.HLevel.{⊥_prop}
use mathlib.Core.Logic.{∥∥₁_elim, ∥∥₁_map}
use Rattle.model.specs.declared.cell.Cell.{Cell}
use Rattle.model.specs.Problems.{Problem, steps}
use Rattle.model.specs.Plans.{Cells, Pins}
use Rattle.model.specs.Clauses.{Clauses}
use Rattle.model.specs.Firsts.{Ordered, Such, NoneAgrees, First}
use Rattle.model.specs.Kept.{Kept, Next, Only}
use Rattle.model.proofs.KeptOnce.{kept_prop}
use Rattle.model.proofs.SeenOnce.{such_prop, only_prop, next_prop}
use Rattle.model.proofs.Keeping.{kept_first}
use Rattle.marks.specs.declared.tables.Marks.{Marks}
use Rattle.marks.specs.declared.index.Index.{Index}
use Rattle.marks.specs.declared.cells.CellSides.{CellSides}
use Rattle.marks.specs.Grows.{Retreated}
use Rattle.marks.specs.Deciding.{mark_of, Decided, Undecided}
use Rattle.search.specs.declared.level.Level.{Level}
use Rattle.search.specs.Levels.{cell_at, no_level, entry_of, path_at, Lower, taken_by}
use Rattle.search.specs.Ordering.{places_in}
use Rattle.search.specs.Sound.{Sound}
use Rattle.search.proofs.PinnedPath.{same_cells}
use Rattle.search.proofs.Seeing.{seen_contradiction, seen_undecided, seen_whole}
use Rattle.search.proofs.Sounding.{sound_choose, sound_undo, trail_within, undo_lower, beyond_lower}

module _ {p : Problem} {V : Clauses} {ix : Index} {T : ℕ} {order : List Cell} {pins : Pins} {root : Option CellSides} {m : Marks} {ls : List Level} {n : ℕ}
    (t : ∥ Sound p V ix T order pins root m ls n ∥₁) where
  -- what is sound with a choice, said with one level more than there were before it
  newest : 0 < n → Sound p V ix T order pins root m ls n → Sound p V ix T order pins root m ls (suc (n - 1))
  newest some s = let e : n ≡ suc (n - 1) = omega arith in subst (Sound p V ix T order pins root m ls) e s

  pub shown_kept : Kept (Such p T pins) T (steps p) pins (places_in order) (path_at order ls n)
  shown_kept = ∥∥₁_elim t (kept_prop (Such p T pins) T (steps p) pins (places_in order) (path_at order ls n)) (λ s. s.kept)

  pub shown_contradiction : m.conflict ≡ true → NoneAgrees (Such p T pins) (path_at order ls n)
  shown_contradiction h c w a = ∥∥₁_elim t ⊥_prop
      (λ s. seen_contradiction s h c w a)

  pub shown_next : m.conflict ≡ false → (k : ℕ) → k < T * steps p → Undecided m (cell_at order k) → Lower m order k
      → Next (Such p T pins) T (steps p) pins (places_in order) (path_at order ls n) (cell_at order k)
  shown_next calm k r u low = ∥∥₁_elim t (next_prop (Such p T pins) T (steps p) (path_at order ls n) pins (places_in order) (cell_at order k))
      (λ s. seen_undecided s calm k r u low)

  pub shown_whole : m.conflict ≡ false → Lower m order (T * steps p) → Only (Such p T pins) T (steps p) (path_at order ls n) (taken_by m p T)
  shown_whole calm all = ∥∥₁_elim t (only_prop (Such p T pins) T (steps p) (path_at order ls n) (such_prop p T pins) (taken_by m p T))
      (λ s. seen_whole s calm all)

  pub shown_ordered : Ordered T (steps p) (places_in order)
  shown_ordered = record {
    place_below = λ c r q. ∥∥₁_elim t le_prop (λ s. s.ordered.place_below c r q);
    cell_below = λ k h. (∥∥₁_elim t le_prop (λ s. (s.ordered.cell_below k h).0), ∥∥₁_elim t le_prop (λ s. (s.ordered.cell_below k h).1));
    cell_of_place = λ c r q. same_cells (cell_at order ((places_in order).place c)) c
        (∥∥₁_elim t (ℕ_set _ _) (λ s. ap (λ (d : Cell). d.time) (s.ordered.cell_of_place c r q)))
        (∥∥₁_elim t (ℕ_set _ _) (λ s. ap (λ (d : Cell). d.step) (s.ordered.cell_of_place c r q)));
    place_of_cell = λ k h. ∥∥₁_elim t (ℕ_set _ _) (λ s. s.ordered.place_of_cell k h);
  }

  -- the one plan that agrees with the path is the first
  pub shown_first : (plan : Cells) → Only (Such p T pins) T (steps p) (path_at order ls n) plan → First (Such p T pins) T (steps p) (cell_at order) plan
  shown_first plan o = kept_first (Such p T pins) T (steps p) pins (places_in order) (path_at order ls n) plan shown_ordered shown_kept o

  pub shown_long : m.length ≡ T
  shown_long = ∥∥₁_elim t (ℕ_set _ _) (λ s. s.long)

  pub shown_placed : (k : ℕ) → k < n → (get_or ls k no_level).place < T * steps p
  shown_placed k h = ∥∥₁_elim t le_prop (λ s. s.placed k h)

  pub shown_beyond : 0 < n → n ≤ length ls → m.conflict ≡ false → Lower m order ((get_or ls (n - 1) no_level).place + 1)
  shown_beyond some room calm k h = ∥∥₁_elim t (Bool-set _ _) (λ s. beyond_lower (newest some s) (omega arith) calm k h)

  pub shown_trail : 0 < n → n ≤ length ls → (get_or ls (n - 1) no_level).trail ≤ m.len
  shown_trail some room = ∥∥₁_elim t le_prop (λ s. trail_within (newest some s) (omega arith))

  pub shown_lower : 0 < n → n ≤ length ls → (m' : Marks) → Retreated m (get_or ls (n - 1) no_level).trail m' → Lower m' order (get_or ls (n - 1) no_level).place
  shown_lower some room m' r k h = ∥∥₁_elim t (Bool-set _ _) (λ s. undo_lower (newest some s) (omega arith) r k h)

  pub shown_undo : 0 < n → n ≤ length ls → (m' : Marks) → Retreated m (get_or ls (n - 1) no_level).trail m' → ∥ Sound p V ix T order pins root m' ls (n - 1) ∥₁
  shown_undo some room m' r = ∥∥₁_map t (λ s. sound_undo (newest some s) (omega arith) r)

  pub shown_choose : (m' : Marks) (l : Level) → n < length ls → l.place < T * steps p → m.conflict ≡ false → l.trail ≡ m.len → Lower m order l.place
      → Kept (Such p T pins) T (steps p) pins (places_in order) (path_at order ls n ++ (entry_of order l ∷ []))
      → Decided ix m (mark_of l.side (cell_at order l.place)) m'
      → ∥ Sound p V ix T order pins root m' (set ls n l) (n + 1) ∥₁
  shown_choose m' l room inside calm trail low kept d =
      subst (λ (k : ℕ). ∥ Sound p V ix T order pins root m' (set ls n l) k ∥₁) (sym (add-one n))
      (∥∥₁_map t (λ s. sound_choose l s room inside calm trail low kept d))
