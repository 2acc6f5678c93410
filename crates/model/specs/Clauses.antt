-- Clauses that hold in every state: pairs of literals of which at least one is true. Assumes nothing.
use Rattle.std.specs.Prelude.{◌≡◌, ℕ, ◌<◌, Bool, true, ◌⊎◌}
use Rattle.sets.specs.Literals.{Literal, opposite, fact}
use Rattle.model.specs.Problems.{Problem, Open, Needs, Makes, start_state, State, Holds}

-- a set of clauses: whether each pair is one
abbrev pub Clauses : Type 0
Clauses = Literal → Literal → Bool

-- {a, b} is a clause of the set: at least one of the two literals holds
abbrev pub Clause : Clauses → Literal → Literal → Type 0
Clause V a b = V a b ≡ true

-- two needs of step o, possibly one, cannot hold together: the step is barred
abbrev pub Barred : Problem → Clauses → ℕ → Type 0
Barred p V o = (a b : Literal) × Needs p o a × Needs p o b × Clause V (opposite a) (opposite b)

-- b holds wherever the needs of step o do: it is a clause by itself, a need, or shares a clause with a need's opposite
abbrev pub Known : Problem → Clauses → ℕ → Literal → Type 0
Known p V o b = Clause V b b ⊎ (Needs p o b ⊎ ((a : Literal) × Needs p o a × Clause V (opposite a) b))

-- step o may turn the clause {a, b} false by making a's opposite: it does not make b, and b is not known or is undone too
abbrev pub SpoilsBy : Problem → Clauses → ℕ → Literal → Literal → Type 0
SpoilsBy p V o a b = Makes p o (opposite a) × (Makes p o b → ⊥) × ((Known p V o b → ⊥) ⊎ Makes p o (opposite b))

-- the same in either order
abbrev pub Spoils : Problem → Clauses → ℕ → Literal → Literal → Type 0
Spoils p V o a b = SpoilsBy p V o a b ⊎ SpoilsBy p V o b a

-- a set of clauses, without order within a pair, that is true at the start and that no open step spoils unless it is barred
pub record Kept (p : Problem) (V : Clauses) : Type 0 where
  pub in_range : (a b : Literal) → Clause V a b → (fact a < p.facts) × (fact b < p.facts)
  pub unordered : (a b : Literal) → Clause V a b → Clause V b a
  pub at_start : (a b : Literal) → Clause V a b → Holds (start_state p) a ⊎ Holds (start_state p) b
  pub unspoiled : (a b : Literal) → Clause V a b → (o : ℕ) → Open p o → (Barred p V o → ⊥) → Spoils p V o a b → ⊥

-- every clause of V is one of W
abbrev pub Within : Clauses → Clauses → Type 0
Within V W = (a b : Literal) → Clause V a b → Clause W a b

-- the largest such set: kept, and above every kept set
pub record Largest (p : Problem) (W : Clauses) : Type 0 where
  pub kept : Kept p W
  pub above : (V : Clauses) → Kept p V → Within V W

-- every clause holds in the state
abbrev pub AllHold : Clauses → State → Type 0
AllHold V s = (a b : Literal) → Clause V a b → Holds s a ⊎ Holds s b
