-- Marks over literal numbers, which of them the tables have on, and the trail. Assumes nothing.
use Rattle.std.specs.Prelude.{◌≡◌, ℕ, zero, suc, ◌+◌, ◌*◌, ◌/◌, ◌<◌, Bool, true, false, ◌&&◌, ◌||◌, List, ◌==◌, ◌≢◌, nat_le, nat_lt, slice_index_or}
use Rattle.sets.specs.Literals.{lit, code, opposite}
use Rattle.sets.specs.Sets.{step_in, lit_in, no_literals, no_steps}
use Rattle.sets.specs.declared.facts.LiteralSet.{LiteralSet}
use Rattle.sets.specs.declared.steps.StepSet.{StepSet}
use Rattle.marks.specs.declared.cells.CellSides.{CellSides}
use Rattle.marks.specs.declared.marked.Marked.{Marked}
use Rattle.marks.specs.declared.mark.Mark.{Mark}
use Rattle.marks.specs.declared.mark.Mark.TheVariants.{Fact, Taken, LeftOut}

-- the literal of a number is in the set
abbrev pub number_in : LiteralSet → ℕ → Bool
number_in s l = lit_in s (lit l)

-- the number of the opposite literal
unfoldable pub opp_lit : ℕ → ℕ
opp_lit l = code (opposite (lit l))

-- what contradicts a mark
abbrev pub opp : Mark → Mark
opp (Fact t l) = Fact t (opp_lit l)
opp (Taken t o) = LeftOut t o
opp (LeftOut t o) = Taken t o

-- whether two marks are the same
unfoldable pub same : Mark → Mark → Bool
same (Fact t l) (Fact u k) = t == u && l == k
same (Fact t l) (Taken u k) = false
same (Fact t l) (LeftOut u k) = false
same (Taken t l) (Fact u k) = false
same (Taken t l) (Taken u k) = t == u && l == k
same (Taken t l) (LeftOut u k) = false
same (LeftOut t l) (Fact u k) = false
same (LeftOut t l) (Taken u k) = false
same (LeftOut t l) (LeftOut u k) = t == u && l == k

-- whether a mark speaks of a time of the length and of a literal or step number
abbrev pub ranged : ℕ → Mark → Bool
ranged T (Fact t l) = nat_le t T && nat_lt l 128
ranged T (Taken t o) = nat_lt t T && nat_lt o 256
ranged T (LeftOut t o) = nat_lt t T && nat_lt o 256

-- whether the tables have a mark on
abbrev pub on_in : List LiteralSet → CellSides → Mark → Bool
on_in facts cells (Fact t l) = number_in (slice_index_or facts t no_literals) l
on_in facts cells (Taken t o) = step_in (slice_index_or cells.taken t no_steps) o
on_in facts cells (LeftOut t o) = step_in (slice_index_or cells.left t no_steps) o

abbrev pub marked_in : Marked → Mark → Bool
marked_in k x = on_in k.facts k.cells x

abbrev pub mark_at : List Mark → ℕ → Mark
mark_at trail i = slice_index_or trail i (Fact 0 0)

-- whether a mark stands among the first n of the trail
unfoldable pub in_trail : List Mark → ℕ → Mark → Bool
in_trail trail zero x = false
in_trail trail (suc n) x = same (mark_at trail n) x || in_trail trail n x

-- a number for what a mark speaks of, the same for the opposite mark
unfoldable pub slot : Mark → ℕ
slot (Fact t l) = t * 64 + l / 2
slot (Taken t o) = 2112 + (t * 256 + o)
slot (LeftOut t o) = 2112 + (t * 256 + o)

-- a mark is on exactly when it stands in the trail
abbrev pub Listed : Marked → List Mark → ℕ → Type 0
Listed k trail len = (x : Mark) → marked_in k x ≡ in_trail trail len x

abbrev pub AllRanged : ℕ → List Mark → ℕ → Type 0
AllRanged T trail len = (i : ℕ) → i < len → ranged T (mark_at trail i) ≡ true

-- the marks of the trail speak of different things
abbrev pub Apart : List Mark → ℕ → Type 0
Apart trail len = (i j : ℕ) → i < j → j < len → slot (mark_at trail i) ≢ slot (mark_at trail j)

-- by literal the steps that have it: the rows read by columns
abbrev pub Transposed : List LiteralSet → List StepSet → Type 0
Transposed rows columns = (i l : ℕ) → number_in (slice_index_or rows i no_literals) l ≡ step_in (slice_index_or columns l no_steps) i

-- no cell is on both sides
abbrev pub Disjoint : CellSides → Type 0
Disjoint k = (t o : ℕ) → step_in (slice_index_or k.taken t no_steps) o ≡ true → step_in (slice_index_or k.left t no_steps) o ≢ true
