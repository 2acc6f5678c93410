-- What a problem table promises of its sets: facts in range, and no literal beside its opposite. Assumes nothing.
use Rattle.std.specs.Prelude.{◌≡◌, ℕ, ◌<◌, true, List, take, ◌≢◌, slice_index_or}
use Rattle.sets.specs.Literals.{Literal, opposite, fact}
use Rattle.sets.specs.Sets.{lit_in, fact_in}
use Rattle.sets.specs.declared.facts.FactSet.{FactSet}
use Rattle.sets.specs.declared.facts.LiteralSet.{LiteralSet}
use Rattle.model.specs.declared.step.Step.{Step}
use Rattle.model.specs.Problems.{closed_step}

-- every fact of the set is below a count
abbrev pub FactsBelow : ℕ → FactSet → Type 0
FactsBelow n s = (f : ℕ) → fact_in s f ≡ true → f < n

-- every literal of the set is of a fact below a count
abbrev pub LiteralsBelow : ℕ → LiteralSet → Type 0
LiteralsBelow n s = (l : Literal) → lit_in s l ≡ true → fact l < n

-- no literal of the set stands beside its opposite
abbrev pub NoOpposites : LiteralSet → Type 0
NoOpposites s = (l : Literal) → lit_in s l ≡ true → lit_in s (opposite l) ≢ true

-- the needs, and the makes, of each of the first steps of a table are of facts below a count
abbrev pub NeedsBelow : ℕ → ℕ → List Step → Type 0
NeedsBelow n count rows = (o : ℕ) → LiteralsBelow n (slice_index_or (take count rows) o closed_step).needs

abbrev pub MakesBelow : ℕ → ℕ → List Step → Type 0
MakesBelow n count rows = (o : ℕ) → LiteralsBelow n (slice_index_or (take count rows) o closed_step).makes

-- no need, and no make, of one of the first steps stands beside its opposite
abbrev pub NeedsAgree : ℕ → List Step → Type 0
NeedsAgree count rows = (o : ℕ) → NoOpposites (slice_index_or (take count rows) o closed_step).needs

abbrev pub MakesAgree : ℕ → List Step → Type 0
MakesAgree count rows = (o : ℕ) → NoOpposites (slice_index_or (take count rows) o closed_step).makes
