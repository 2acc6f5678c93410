-- Theorems on the marks. Assumes nothing.
use Rattle.std.specs.Prelude.{◌≡◌, Bool, true, false}
use Rattle.model.specs.Problems.{Problem, steps}
use Rattle.model.specs.Plans.{Pins as PinsOf}
use Rattle.model.specs.Clauses.{Clauses}
use Rattle.model.specs.Marks.{Mark as MarkOf, Closed}
use Rattle.marks.specs.declared.mark.Mark.{Mark}
use Rattle.marks.specs.declared.tables.Marks.{Marks}
use Rattle.marks.specs.declared.index.Index.{Index}
use Rattle.marks.specs.Grows.{on}
use Rattle.marks.specs.Rules.{Exactly, seeds}
use Rattle.marks.specs.Pinning.{Within}
use Rattle.marks.specs.Meaning.{Means, Tells, encode, decode}

-- marks that are exactly what the pins force tell the problem that the index means
abbrev pub ExactlyTells : Type 0
ExactlyTells = (ix : Index) (p : Problem) (places : PinsOf) (V : Clauses) (m : Marks)
    → Means ix p V → Within places (steps p) → Exactly ix (seeds ix places m.length) m → Tells p places V m

-- whatever is on lies in every closed set of the problem's marks that holds the seeds
abbrev pub SeedsBound : Type 0
SeedsBound = (ix : Index) (p : Problem) (places : PinsOf) (V : Clauses) (seed : Mark → Bool) (m : Marks)
    → Means ix p V → Within places (steps p) → Exactly ix seed m
    → (M : MarkOf → Bool) → Closed p m.length places V (λ x. M x ≡ true) → ((y : Mark) → seed y ≡ true → M (decode y) ≡ true)
    → (y : Mark) → on m y ≡ true → M (decode y) ≡ true

-- marks without contradiction, with the pins among their seeds, are a closed set
abbrev pub RestClosed : Type 0
RestClosed = (ix : Index) (p : Problem) (places : PinsOf) (V : Clauses) (seed : Mark → Bool) (m : Marks)
    → Means ix p V → Within places (steps p) → Exactly ix seed m → m.conflict ≡ false
    → ((y : Mark) → seeds ix places m.length y ≡ true → seed y ≡ true)
    → Closed p m.length places V (λ x. on m (encode x) ≡ true)
