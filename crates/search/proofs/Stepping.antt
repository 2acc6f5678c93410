-- The levels of a search, with one more and with one less. Assumes nothing.
use Rattle.std.proofs.Common.{◌≡◌, ℕ, zero, suc, ◌<◌, ◌≤◌, true, false, ◌≢◌, List, [], ◌∷◌, ◌++◌, map, length, get_or, take, set, sym, ap, ◌∙◌, ⊎_elim, add-one, arith, get_or-set_other}
use Rattle.std.proofs.lemmas.List.{map-append, take_more, take-set-le}
use Rattle.std.proofs.lemmas.Bool.{both_ways, or_cases, or_left, or_right}
use Rattle.model.specs.declared.cell.Cell.{Cell}
use Rattle.model.specs.Plans.{Pins}
use Rattle.marks.specs.declared.mark.Mark.{Mark}
use Rattle.marks.specs.declared.mark.Mark.TheVariants.{Taken, LeftOut}
use Rattle.marks.specs.declared.tables.Marks.{Marks}
use Rattle.marks.specs.declared.index.Index.{Index}
use Rattle.marks.specs.Tables.{mark_at}
use Rattle.marks.specs.Grows.{on, Grows, Retreated}
use Rattle.marks.proofs.Growth.{grows_trans}
use Rattle.marks.proofs.Trail.{in_trail_prefix}
use Rattle.search.specs.declared.level.Level.{Level}
use Rattle.search.specs.Levels.{cell_at, no_level, entry_of, path_at, told, Lower, Levels}

-- ---- the path

pub path_more : (order : List Cell) (ls ls' : List Level) (n n' : ℕ) (l : Level) → take n' ls' ≡ take n ls ++ (l ∷ [])
    → path_at order ls' n' ≡ path_at order ls n ++ (entry_of order l ∷ [])
path_more order ls ls' n n' l h = ap (map (entry_of order)) h ∙ map-append (entry_of order) (take n ls) (l ∷ [])

pub path_suc : (order : List Cell) (ls : List Level) (n : ℕ) → n < length ls → path_at order ls (suc n) ≡ path_at order ls n ++ (entry_of order (get_or ls n no_level) ∷ [])
path_suc order ls n h = path_more order ls ls n (suc n) (get_or ls n no_level) (ap (λ (k : ℕ). take k ls) (sym (add-one n)) ∙ take_more ls n no_level h)

pub path_set : (order : List Cell) (ls : List Level) (n k : ℕ) (l : Level) → n ≤ k → path_at order (set ls k l) n ≡ path_at order ls n
path_set order ls n k l h = ap (map (entry_of order)) (take-set-le n ls k l h)

-- ---- marks that only grow

pub told_grows : {a b : Marks} → Grows a b → (c : Cell) → told a c ≡ true → told b c ≡ true
told_grows {a} {b} g c h = ⊎_elim
    (λ k. or_left _ _ (g.keeps (Taken c.time c.step) k))
    (λ k. or_right (on b (Taken c.time c.step)) _ (g.keeps (LeftOut c.time c.step) k))
    (or_cases (on a (Taken c.time c.step)) (on a (LeftOut c.time c.step)) h)

pub lower_grows : {a b : Marks} → Grows a b → (order : List Cell) (n : ℕ) → Lower a order n → Lower b order n
lower_grows g order n low k h = told_grows g (cell_at order k) (low k h)

-- after going back the marks are those that there were, and so no fewer
pub grows_back : (a b c : Marks) → a.conflict ≡ false → Grows a b → Retreated b a.len c → Grows a c
grows_back a b c calm g r = record {
  same_length = r.same_length ∙ g.same_length;
  longer = omega (arith, r.shorter);
  prefix = λ i h. ap (λ (t : List Mark). mark_at t i) r.same_trail ∙ g.prefix i h;
  keeps = λ x h. r.back x ∙ in_trail_prefix b.trail a.trail a.len g.prefix x ∙ sym (a.listed x) ∙ h;
  stuck = λ h. absurd (both_ways a.conflict calm h);
}

-- ---- the levels

module _ (ix : Index) (T : ℕ) (pins : Pins) (order : List Cell) where
  pub levels_grow : (ls : List Level) (n : ℕ) {a b : Marks} → Grows a b → Levels ix T pins order ls n a → Levels ix T pins order ls n b
  levels_grow ls zero g w = tt
  levels_grow ls (suc n) g w = (w.0, w.1, w.2, w.3, w.4, w.5, grows_trans w.6 g, w.7)

  -- a level written at or above n leaves the first n as they were
  pub levels_set : (ls : List Level) (k : ℕ) (l : Level) (n : ℕ) (m : Marks) → n ≤ k → Levels ix T pins order ls n m → Levels ix T pins order (set ls k l) n m
  levels_set ls k l zero m h w = tt
  levels_set ls k l (suc n) m h w =
      let ne : n ≢ k = λ e. omega arith in
      let same : get_or (set ls k l) n no_level ≡ get_or ls n no_level = rw get_or-set_other in (
        w.0,
        w.1,
        w.2,
        rw same w.3,
        rw (path_set order ls n k l (omega arith)) w.4,
        rw same w.5,
        w.6,
        levels_set ls k l n w.0 (omega arith) w.7,
      )
