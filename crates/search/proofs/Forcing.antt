-- What the marks of the pins alone say of a cell is what the pins force. Assumes nothing.
use Rattle.std.proofs.Common.{◌≡◌, ℕ, true, Some, sym, ap, ◌∙◌, subst, arith}
use mathlib.Core.Logic.{∥∥₁_map}
use Rattle.std.proofs.lemmas.Bool.{both_ways}
use Rattle.model.specs.declared.cell.Cell.{Cell}
use Rattle.model.specs.declared.path.Side.TheVariants as side
use Rattle.model.specs.Problems.{Problem}
use Rattle.model.specs.Plans.{Pins}
use Rattle.model.specs.Clauses.{Clauses}
use Rattle.model.specs.Marks.{taken, left_out, Forced, Contradiction}
use Rattle.model.specs.Forcing.{CellTold, ForcedSays}
use Rattle.model.specs.Held.{problem_of}
use Rattle.marks.specs.declared.tables.Marks.{Marks}
use Rattle.marks.specs.declared.cells.CellSides.{CellSides}
use Rattle.marks.specs.Rules.{Exactly, seeds}
use Rattle.marks.specs.Meaning.{Tells}
use Rattle.marks.specs.Pinning.{pins_of}
use Rattle.marks.specs.Cells.{CellsOf, said, Unsaid}
use Rattle.marks.proofs.Meaning.{exactly_tells}
use Rattle.clauses.specs.Waiting.{kept_in}
use Rattle.search.specs.declared.tables.Search.{Search}

module _ {p : Problem} {pins : Pins} {V : Clauses} {m : Marks} (c : Cell) (tells : Tells p pins V m) where
  pub told_contradiction : m.conflict ≡ true → CellTold (Forced p m.length pins V) c.time c.step 3
  told_contradiction e = record {
    small = omega arith;
    undecided = λ q. absurd (omega arith);
    is_taken = λ q. absurd (omega arith);
    is_left_out = λ q. absurd (omega arith);
    contradicts = λ q. tells.broken e;
  }

  module _ (k : CellSides) (same : CellsOf m (Some k)) where
    calm : Contradiction (Forced p m.length pins V) → ⊥
    calm x = both_ways m.conflict same.0 (tells.whole x)

    pub told_taken : said k side.Taken c ≡ true → CellTold (Forced p m.length pins V) c.time c.step 1
    told_taken h = record {
      small = omega arith;
      undecided = λ q. absurd (omega arith);
      is_taken = λ q. (calm, tells.sound (taken c.time c.step) (sym (ap (λ (z : CellSides). said z side.Taken c) same.1) ∙ h));
      is_left_out = λ q. absurd (omega arith);
      contradicts = λ q. absurd (omega arith);
    }

    pub told_left : said k side.LeftOut c ≡ true → CellTold (Forced p m.length pins V) c.time c.step 2
    told_left h = record {
      small = omega arith;
      undecided = λ q. absurd (omega arith);
      is_taken = λ q. absurd (omega arith);
      is_left_out = λ q. (calm, tells.sound (left_out c.time c.step) (sym (ap (λ (z : CellSides). said z side.LeftOut c) same.1) ∙ h));
      contradicts = λ q. absurd (omega arith);
    }

    pub told_neither : Unsaid k c → CellTold (Forced p m.length pins V) c.time c.step 0
    told_neither u = record {
      small = omega arith;
      undecided = λ q. (
        calm,
        λ x. both_ways _ (sym (ap (λ (z : CellSides). said z side.Taken c) same.1) ∙ u.not_taken) (tells.complete same.0 (taken c.time c.step) x),
        λ x. both_ways _ (sym (ap (λ (z : CellSides). said z side.LeftOut c) same.1) ∙ u.not_left) (tells.complete same.0 (left_out c.time c.step) x),
      );
      is_taken = λ q. absurd (omega arith);
      is_left_out = λ q. absurd (omega arith);
      contradicts = λ q. absurd (omega arith);
    }

-- what the marks of the pins tell, whatever they are, is told of the search's pins
pub forced_says : (s : Search) (c : Cell) (n : ℕ)
    → ((V : Clauses) (m : Marks) → Tells (problem_of s.problem) (pins_of s.pins) V m → CellsOf m s.root
    → CellTold (Forced (problem_of s.problem) m.length (pins_of s.pins) V) c.time c.step n)
    → ForcedSays (problem_of s.problem) s.length (pins_of s.pins) c.time c.step n
forced_says s c n h = ∥∥₁_map s.sound
    (λ x.
    let p = problem_of s.problem in
    let pins = pins_of s.pins in
    let V = kept_in s.clauses in
    let m = x.rooted.0 in
    let exact = subst (λ (T : ℕ). Exactly s.index (seeds s.index pins T) m) (sym x.rooted.1) x.rooted.2.exact in
    let tells = exactly_tells s.index p pins V m x.means (λ t o q. (x.range t o q).1) exact in
    (V, x.largest, subst (λ (T : ℕ). CellTold (Forced p T pins V) c.time c.step n) x.rooted.1 (h V m tells x.rooted.3)))
