-- One mark more or less in the tables: each bit of the marks is now `op` of whether it is that mark and of what it was.
use Rattle.std.proofs.Common.{◌≡◌, ℕ, Bool, false, ◌&&◌, eqb, List, get_or, sym, subst}
use Rattle.sets.specs.Sets.{no_literals}
use Rattle.sets.specs.declared.facts.LiteralSet.{LiteralSet}
use Rattle.model.specs.declared.cell.Cell.{Cell}
use Rattle.model.specs.declared.path.Side.{Side}
use Rattle.model.specs.declared.path.Side.TheVariants as side
use Rattle.marks.specs.declared.cells.CellSides.{CellSides}
use Rattle.marks.specs.declared.mark.Mark.{Mark}
use Rattle.marks.specs.declared.mark.Mark.TheVariants.{Fact, Taken, LeftOut}
use Rattle.marks.specs.Cells.{side_in, same_side}
use Rattle.marks.specs.Pinning.{same_cell}
use Rattle.marks.specs.Tables.{number_in, on_in, same}
use Rattle.marks.specs.Deciding.{mark_of}

module _ (op : Bool → Bool → Bool) (idle : (b : Bool) → op false b ≡ b) where
  pub fact_changed : (facts facts' : List LiteralSet) (cells : CellSides) (x : Mark) (t i : ℕ) → x ≡ Fact t i
      → ((u j : ℕ) → number_in (get_or facts' u no_literals) j ≡ op (eqb t u && eqb i j) (number_in (get_or facts u no_literals) j))
      → (y : Mark) → on_in facts' cells y ≡ op (same x y) (on_in facts cells y)
  unfolding same
  fact_changed facts facts' cells x t i e h y = subst (λ (z : Mark). on_in facts' cells y ≡ op (same z y) (on_in facts cells y)) (sym e) (go y)
    where
      go : (y : Mark) → on_in facts' cells y ≡ op (same (Fact t i) y) (on_in facts cells y)
      go (Fact u j) = h u j
      go (Taken u j) = sym (idle _)
      go (LeftOut u j) = sym (idle _)

  pub cell_changed : (facts : List LiteralSet) (cells cells' : CellSides) (x : Mark) (s : Side) (c : Cell) → x ≡ mark_of s c
      → ((s' : Side) (u j : ℕ) → side_in cells' s' u j ≡ op (same_side s s' && same_cell c u j) (side_in cells s' u j))
      → (y : Mark) → on_in facts cells' y ≡ op (same x y) (on_in facts cells y)
  unfolding same
  cell_changed facts cells cells' x s c e h y = subst (λ (z : Mark). on_in facts cells' y ≡ op (same z y) (on_in facts cells y)) (sym e) (go s h y)
    where
      go : (s : Side) → ((s' : Side) (u j : ℕ) → side_in cells' s' u j ≡ op (same_side s s' && same_cell c u j) (side_in cells s' u j))
          → (y : Mark) → on_in facts cells' y ≡ op (same (mark_of s c) y) (on_in facts cells y)
      go side.Taken h (Fact u j) = sym (idle _)
      go side.Taken h (Taken u j) = h side.Taken u j
      go side.Taken h (LeftOut u j) = h side.LeftOut u j
      go side.LeftOut h (Fact u j) = sym (idle _)
      go side.LeftOut h (Taken u j) = h side.Taken u j
      go side.LeftOut h (LeftOut u j) = h side.LeftOut u j
