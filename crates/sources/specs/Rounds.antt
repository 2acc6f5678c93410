-- How the reach set is found: from the start's literals, in rounds through the steps, until a round brings nothing. Assumes nothing.
use Rattle.std.specs.Prelude.{◌≡◌, ℕ, ◌<◌, ◌≤◌, Bool, true, false, ◌⊎◌}
use Rattle.sets.specs.Literals.{Literal}
use Rattle.sets.specs.Sets.{lit_in, weight}
use Rattle.sets.specs.declared.facts.LiteralSet.{LiteralSet}
use Rattle.model.specs.declared.step.Step.{Step}
use Rattle.model.specs.Problems.{Problem, step, Open, ◌∈◌}
use Rattle.sources.specs.Reach.{Reached}

-- every literal of the first set is in the second
abbrev pub Within : LiteralSet → LiteralSet → Type 0
Within a b = (l : Literal) → l ∈ a → l ∈ b

-- the flag says whether a need of the step is outside the set
pub record Outside (s : Step) (a : LiteralSet) (flag : Bool) : Type 0 where
  pub none : flag ≡ false → Within s.needs a
  pub some : Within s.needs a → flag ≡ false

-- b is a, with the makes of the step where it is open and a has its needs; it weighs more where it has more
pub record Widened (a : LiteralSet) (s : Step) (b : LiteralSet) : Type 0 where
  pub keeps : Within a b
  pub comes : (l : Literal) → l ∈ b → (l ∈ a) ⊎ ((s.enabled ≡ true) × Within s.needs a × (l ∈ s.makes))
  pub brings : s.enabled ≡ true → Within s.needs a → Within s.makes b
  pub weighs : weight a ≤ weight b
  pub rises : (l : Literal) → l ∈ b → lit_in a l ≡ false → weight a < weight b

-- each literal of the set is in the reach set
abbrev pub Sound : Problem → LiteralSet → Type 0
Sound p a = (l : Literal) → l ∈ a → Reached p l

-- the set has the makes of each open step below n whose needs it has
abbrev pub ClosedTo : Problem → LiteralSet → ℕ → Type 0
ClosedTo p a n = (o : ℕ) → o < n → Open p o → Within (step p o).needs a → Within (step p o).makes a

-- what a round from a to b through the first n steps does
pub record Round (p : Problem) (n : ℕ) (a b : LiteralSet) : Type 0 where
  pub keeps : Within a b
  pub sound : Sound p a → Sound p b
  pub closed : Within b a → ClosedTo p a n
  pub weighs : weight a ≤ weight b
  pub rises : (l : Literal) → l ∈ b → lit_in a l ≡ false → weight a < weight b

-- the set is the reach set
pub record ReachSet (p : Problem) (a : LiteralSet) : Type 0 where
  pub sound : Sound p a
  pub complete : (l : Literal) → Reached p l → l ∈ a
