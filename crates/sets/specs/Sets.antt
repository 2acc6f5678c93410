-- What stands in a set. Assumes nothing.
use Rattle.std.specs.Prelude.{◌≡◌, ℕ, ◌+◌, ◌/◌, ◌%◌, ◌^◌, Bool, true, [], bit_or, slice_index}
use Rattle.sets.specs.Has.{has}
use Rattle.sets.specs.Literals.{Literal, pos, neg}
use Rattle.sets.specs.declared.facts.FactSet.{FactSet}
use Rattle.sets.specs.declared.facts.LiteralSet.{LiteralSet}
use Rattle.sets.specs.declared.steps.StepSet.{StepSet}

-- fact i is in the set
unfoldable pub fact_in : FactSet → ℕ → Bool
fact_in s i = has s.bits i

-- the set with one fact more
unfoldable pub with_fact : FactSet → ℕ → FactSet
with_fact s f = record { bits = bit_or s.bits (2 ^ f) }

-- a number that falls where a member goes, and rises where one comes
unfoldable pub bulk : FactSet → ℕ
bulk s = s.bits

-- the literal is in the set
unfoldable pub lit_in : LiteralSet → Literal → Bool
lit_in s (pos f) = fact_in s.truths f
lit_in s (neg f) = fact_in s.falsities f

-- the set with one literal more
unfoldable pub with_literal : LiteralSet → Literal → LiteralSet
with_literal s (pos f) = record { truths = with_fact s.truths f; falsities = s.falsities }
with_literal s (neg f) = record { truths = s.truths; falsities = with_fact s.falsities f }

-- as `bulk`
unfoldable pub weight : LiteralSet → ℕ
weight s = bulk s.truths + bulk s.falsities

-- step i is in the set
unfoldable pub step_in : StepSet → ℕ → Bool
step_in s i = has (slice_index s.words (i / 64)) (i % 64)

-- o is the one member
abbrev pub OnlyStep : StepSet → ℕ → Type 0
OnlyStep s o = (step_in s o ≡ true) × ((i : ℕ) → step_in s i ≡ true → i ≡ o)

-- the empty sets, as what stands past the end of a table
abbrev pub no_facts : FactSet
no_facts = record { bits = 0 }

abbrev pub no_literals : LiteralSet
no_literals = record { truths = no_facts; falsities = no_facts }

abbrev pub no_steps : StepSet
no_steps = record { words = [] }
