-- What awaits another look. Assumes nothing.
use Rattle.std.specs.Prelude.{◌≡◌, ℕ, ◌+◌, ◌*◌, ◌<◌, ◌≤◌, Bool, true, false, ◌⊎◌, List, [], ◌∷◌, take, ◌≢◌}
use Rattle.sets.specs.Literals.{Literal, opposite, lit, code}
use Rattle.sets.specs.Sets.{lit_in}
use Rattle.sets.specs.declared.facts.LiteralSet.{LiteralSet}
use Rattle.model.specs.Problems.{Problem, Needs, steps}
use Rattle.model.specs.Clauses.{Clauses, Clause}
use Rattle.clauses.specs.declared.record.ClauseRecord.{ClauseRecord}
use Rattle.clauses.specs.declared.waiting.Waiting.{Waiting}
use Rattle.clauses.specs.declared.waiting.Touched.{Touched}
use Rattle.clauses.specs.Pairs.{rel, load}
use Rattle.clauses.specs.Striking.{Cut, Good, Settled, Looks}

-- the clauses that the record holds
abbrev pub kept_in : ClauseRecord → Clauses
kept_in r = rel r.pairs

-- x stands in the list
abbrev pub On : ℕ × ℕ → List (ℕ × ℕ) → Type 0
On x [] = ⊥
On x (y ∷ ys) = (x ≡ y) ⊎ On x ys

-- the pairs that await, oldest first
abbrev pub waiting : Waiting → List (ℕ × ℕ)
waiting w = take w.len w.pairs

-- the pair of the literals numbered x and y awaits a look
unfoldable pub Held : Waiting → ℕ → ℕ → Type 0
Held w x y = On (x, y) (waiting w)

-- nothing awaits
abbrev pub Idle : Waiting → Type 0
Idle w = (w.len ≡ 0) × (w.all ≡ false)

-- no pair that the step looks at awaits
abbrev pub NoneLooks : Problem → Waiting → ℕ → Type 0
NoneLooks p w o = (x y : ℕ) → Held w x y → Looks p o (lit x) (lit y) → ⊥

abbrev pub one_if : Bool → ℕ
one_if true = 1
one_if false = 0

-- a number that falls with each strike, and with each round: no stack of struck pairs outweighs one strike
unfoldable pub size : ClauseRecord → ℕ
size r = load r.pairs * 8258 + r.waiting.len + one_if r.waiting.all

-- nothing awaits less than before
pub record Noted (w w' : Waiting) : Type 0 where
  pub held : (x y : ℕ) → Held w x y → Held w' x y
  pub all : w'.all ≡ false → w.all ≡ false

-- only pairs that G names were struck, and each of them awaits, in one order or the other, unless every step is to be looked at
pub record Struck (r r' : ClauseRecord) (G : Literal → Literal → Type 0) : Type 0 where
  pub facts : r'.facts ≡ r.facts
  pub cut : Cut (kept_in r) (kept_in r') G
  pub noted : Noted r.waiting r'.waiting
  pub logged : (k x : Literal) → r'.waiting.all ≡ false → Clause (kept_in r) k x → kept_in r' k x ≡ false
      → Held r'.waiting (code k) (code x) ⊎ Held r'.waiting (code x) (code k)
  pub less : size r' ≤ size r

-- two literals that differ, and the opposites of both are in the set
abbrev pub Caught : LiteralSet → ℕ → ℕ → Type 0
Caught touched x y = (x ≢ y) × (x < 128 → lit_in touched (opposite (lit x)) ≡ true) × (y < 128 → lit_in touched (opposite (lit y)) ≡ true)

-- all that awaited was taken up: the opposites of its literals are among the touched needs, unless every step is to be looked at
pub record Gathered (w w' : Waiting) (touched : Touched) : Type 0 where
  pub none : Idle w'
  pub all : touched.all ≡ false → w.all ≡ false
  pub caught : (x y : ℕ) → Held w x y → touched.all ≡ false → Caught touched.needs x y

-- step o is to be looked at: all are, or it needs a touched literal
abbrev pub Due : Problem → ℕ → Touched → Type 0
Due p o touched = (touched.all ≡ true) ⊎ ((l : Literal) × Needs p o l × (lit_in touched.needs l ≡ true))

-- strikes, and their notes, by any steps
pub record Moved (p : Problem) (r r' : ClauseRecord) : Type 0 where
  pub facts : r'.facts ≡ r.facts
  pub good : Good p (kept_in r) → Good p (kept_in r')
  pub noted : Noted r.waiting r'.waiting
  pub carried : (o : ℕ) → r'.waiting.all ≡ false → NoneLooks p r'.waiting o → Settled p (kept_in r) (kept_in r) o → Settled p (kept_in r') (kept_in r') o
  pub less : size r' ≤ size r

-- step o, which was settled unless D, is settled unless it awaits
abbrev pub Visited : Problem → ClauseRecord → ClauseRecord → ℕ → Type 0 → Type 0
Visited p r r' o D = r'.waiting.all ≡ false → NoneLooks p r'.waiting o → ((D → ⊥) → Settled p (kept_in r) (kept_in r) o) → Settled p (kept_in r') (kept_in r') o

-- every step is settled unless it awaits
pub record Ready (p : Problem) (r : ClauseRecord) : Type 0 where
  pub good : Good p (kept_in r)
  pub awaits : (o : ℕ) → o < steps p → r.waiting.all ≡ false → NoneLooks p r.waiting o → Settled p (kept_in r) (kept_in r) o
