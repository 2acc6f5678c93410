-- What striking pairs leaves. Assumes nothing.
use Rattle.std.specs.Prelude.{◌≡◌, ℕ, ◌<◌, false, ◌⊎◌}
use Rattle.sets.specs.Literals.{Literal, opposite, fact}
use Rattle.model.specs.Problems.{Problem, Open, Needs, start_state, Holds}
use Rattle.model.specs.Clauses.{Clauses, Clause, Barred, SpoilsBy, Kept, Within}

-- W is what is left of W₀, of which only pairs that G names, in either order, were struck
pub record Cut (W₀ W : Clauses) (G : Literal → Literal → Type 0) : Type 0 where
  pub within : Within W W₀
  pub only : (a b : Literal) → Clause W₀ a b → W a b ≡ false → G a b ⊎ G b a
  pub unordered : ((a b : Literal) → Clause W₀ a b → Clause W₀ b a) → (a b : Literal) → Clause W a b → Clause W b a

-- the open step o, not barred under W, spoils {a, b} by making a's opposite
abbrev pub Spoilt : Problem → ℕ → Clauses → Literal → Literal → Type 0
Spoilt p o W a b = Open p o × (Barred p W o → ⊥) × SpoilsBy p W o a b

-- nothing that step o spoils under W₀ is left in W
abbrev pub Settled : Problem → Clauses → Clauses → ℕ → Type 0
Settled p W₀ W o = Open p o → (Barred p W₀ o → ⊥) → (a b : Literal) → Clause W a b → SpoilsBy p W₀ o a b → ⊥

-- as a kept set, but that steps may spoil it; and above every kept set
pub record Good (p : Problem) (W : Clauses) : Type 0 where
  pub in_range : (a b : Literal) → Clause W a b → (fact a < p.facts) × (fact b < p.facts)
  pub unordered : (a b : Literal) → Clause W a b → Clause W b a
  pub at_start : (a b : Literal) → Clause W a b → Holds (start_state p) a ⊎ Holds (start_state p) b
  pub above : (V : Clauses) → Kept p V → Within V W

-- whether step o is barred, and what is known to it, rests on the pair: a need is the opposite of a or b, or the pair is one literal
abbrev pub Looks : Problem → ℕ → Literal → Literal → Type 0
Looks p o a b = Needs p o (opposite a) ⊎ (Needs p o (opposite b) ⊎ (a ≡ b))
