-- Sets that are told by their members, and rows that are told by their numbers. Assumes nothing.
use Rattle.std.specs.Prelude.{◌≡◌, ℕ, zero, suc, List, [], ◌∷◌}
use Rattle.sets.specs.Literals.{Literal}
use Rattle.sets.specs.Sets.{with_fact, with_literal, no_facts, no_literals}
use Rattle.sets.specs.declared.facts.FactSet.{FactSet}
use Rattle.sets.specs.declared.facts.LiteralSet.{LiteralSet}

-- the set of the facts of a list
abbrev pub facts_of : List ℕ → FactSet
facts_of [] = no_facts
facts_of (f ∷ fs) = with_fact (facts_of fs) f

-- the set of the literals of a list
abbrev pub literals_of : List Literal → LiteralSet
literals_of [] = no_literals
literals_of (l ∷ ls) = with_literal (literals_of ls) l

-- the rows of the numbers below n
unfoldable pub tabulate : {A : Type 0} → ℕ → (ℕ → A) → List A
tabulate zero row = []
tabulate (suc n) row = row 0 ∷ tabulate n (λ i. row (suc i))

-- b is what a becomes where each number below n is added in turn
abbrev pub Gathers : {A : Type 0} → (ℕ → A → A → Type 0) → ℕ → A → A → Type 0
Gathers add zero a b = b ≡ a
Gathers {A} add (suc j) a b = (c : A) × Gathers add j a c × add j c b
