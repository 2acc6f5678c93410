-- What a table of pairs means. Assumes nothing.
use Rattle.std.specs.Prelude.{◌≡◌, ℕ, Bool, true, sum_by, slice_index_or}
use Rattle.sets.specs.Literals.{Literal, code}
use Rattle.sets.specs.Sets.{lit_in, weight, no_literals}
use Rattle.sets.specs.declared.facts.LiteralSet.{LiteralSet}
use Rattle.model.specs.Clauses.{Clauses, Clause}
use Rattle.clauses.specs.declared.pairs.Pairs.{Pairs}

-- whether the table pairs two literals
unfoldable pub rel : Pairs → Literal → Literal → Bool
rel m a b = lit_in (slice_index_or m.rows (code a) no_literals) b

-- a number that falls where a pair is struck
unfoldable pub load : Pairs → ℕ
load m = sum_by weight m.rows

-- l shares a clause with a literal of the set
abbrev pub Linked : Clauses → LiteralSet → Literal → Type 0
Linked V set l = (k : Literal) × (lit_in set k ≡ true) × Clause V k l
