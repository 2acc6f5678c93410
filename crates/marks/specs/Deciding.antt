-- What beginning, a choice and going back do to the marks. Assumes nothing.
use Rattle.std.specs.Prelude.{◌≡◌, ℕ, Bool, false}
use Rattle.model.specs.declared.cell.Cell.{Cell}
use Rattle.model.specs.declared.path.Side.{Side}
use Rattle.model.specs.declared.path.Side.TheVariants as side
use Rattle.model.specs.Problems.{Problem, steps}
use Rattle.model.specs.Plans.{Pins as PinsOf}
use Rattle.model.specs.Clauses.{Clauses}
use Rattle.marks.specs.declared.mark.Mark.{Mark}
use Rattle.marks.specs.declared.mark.Mark.TheVariants.{Taken, LeftOut}
use Rattle.marks.specs.declared.tables.Marks.{Marks}
use Rattle.marks.specs.declared.index.Index.{Index}
use Rattle.marks.specs.Grows.{on, Grows}
use Rattle.marks.specs.Rules.{Rest, OneMore, seeds}
use Rattle.marks.specs.Pinning.{Within}
use Rattle.marks.specs.Meaning.{Means, Tells}

-- the mark of a cell that a side of a choice stands for
abbrev pub mark_of : Side → Cell → Mark
mark_of side.Taken c = Taken c.time c.step
mark_of side.LeftOut c = LeftOut c.time c.step

-- the cell has no mark
pub record Undecided (m : Marks) (c : Cell) : Type 0 where
  pub not_taken : on m (Taken c.time c.step) ≡ false
  pub not_left : on m (LeftOut c.time c.step) ≡ false

-- the marks of a length under pins were worked out from nothing; where the index means a problem and its clauses, they tell it
pub record Begun (ix : Index) (places : PinsOf) (T : ℕ) (m : Marks) : Type 0 where
  pub the_length : m.length ≡ T
  pub rest : Rest ix (seeds ix places T) m
  pub tells : (p : Problem) (V : Clauses) → Means ix p V → Within places (steps p) → Tells p places V m

-- one mark was given more: what was at rest is at rest again, at what the seeds and that mark force
pub record Decided (ix : Index) (a : Marks) (x : Mark) (b : Marks) : Type 0 where
  pub grows : Grows a b
  pub rest : (seed more : Mark → Bool) → OneMore seed x more → Rest ix seed a → Rest ix more b

-- going back to the n marks that there were restores what was at rest then
abbrev pub Restores : Marks → ℕ → Marks → Type 0
Restores b n c = (ix : Index) (seed : Mark → Bool) (a : Marks) → a.conflict ≡ false → a.len ≡ n → Grows a b → Rest ix seed a → Rest ix seed c
