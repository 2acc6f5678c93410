-- How the index is made. Assumes nothing.
use Rattle.std.specs.Prelude.{◌≡◌, ℕ, ◌<◌, true, false, ◌⊎◌, List, ◌≢◌, slice_index_or}
use Rattle.sets.specs.Literals.{Literal, fact}
use Rattle.sets.specs.Sets.{step_in, lit_in, no_literals, no_steps}
use Rattle.sets.specs.declared.facts.LiteralSet.{LiteralSet}
use Rattle.sets.specs.declared.steps.StepSet.{StepSet}
use Rattle.model.specs.Problems.{Problem, step, start_state, Holds}
use Rattle.marks.specs.declared.index.Index.{Index}
use Rattle.marks.specs.Tables.{number_in, opp_lit}

-- literal l stands in row i, and step i in column l
abbrev pub InRow : List LiteralSet → ℕ → ℕ → Type 0
InRow rows i l = number_in (slice_index_or rows i no_literals) l ≡ true

abbrev pub In : List StepSet → ℕ → ℕ → Type 0
In columns l i = step_in (slice_index_or columns l no_steps) i ≡ true

-- every member is the number of a literal
abbrev pub Small : LiteralSet → Type 0
Small s = (l : ℕ) → number_in s l ≡ true → l < 128

-- step o was put into the column of each literal of the row below a bound
pub record Columned (a : List StepSet) (row : LiteralSet) (o bound : ℕ) (b : List StepSet) : Type 0 where
  pub kept : (l i : ℕ) → In a l i → In b l i
  pub there : (l : ℕ) → l < bound → number_in row l ≡ true → In b l o
  pub why : (l i : ℕ) → In b l i → In a l i ⊎ ((i ≡ o) × (l < bound) × (number_in row l ≡ true))

-- the rows below a bound, read by columns
pub record Turned (rows : List LiteralSet) (bound : ℕ) (columns : List StepSet) : Type 0 where
  pub there : (i l : ℕ) → i < bound → InRow rows i l → In columns l i
  pub why : (i l : ℕ) → In columns l i → (i < bound) × InRow rows i l

-- the columns of the opposites of the literals below a bound, together
pub record Gathered (columns : List StepSet) (literals : LiteralSet) (bound : ℕ) (r : StepSet) : Type 0 where
  pub there : (l i : ℕ) → l < bound → number_in literals l ≡ true → In columns (opp_lit l) i → step_in r i ≡ true
  pub why : (i : ℕ) → step_in r i ≡ true → (l : ℕ) × (l < bound) × (number_in literals l ≡ true) × In columns (opp_lit l) i

-- the steps other than o that undo step o, or that it undoes
pub record RivalsOf (makers needers : List StepSet) (needs makes : LiteralSet) (o : ℕ) (r : StepSet) : Type 0 where
  pub made_made : (i l : ℕ) → (i ≢ o) → number_in makes l ≡ true → In makers (opp_lit l) i → step_in r i ≡ true
  pub made_needed : (i l : ℕ) → (i ≢ o) → number_in makes l ≡ true → In needers (opp_lit l) i → step_in r i ≡ true
  pub needed_made : (i l : ℕ) → (i ≢ o) → number_in needs l ≡ true → In makers (opp_lit l) i → step_in r i ≡ true
  pub other : (i : ℕ) → step_in r i ≡ true → i ≢ o
  pub why : (i : ℕ) → step_in r i ≡ true
      → ((l : ℕ) × (number_in makes l ≡ true) × (In makers (opp_lit l) i ⊎ In needers (opp_lit l) i)) ⊎ ((l : ℕ) × (number_in needs l ≡ true) × In makers (opp_lit l) i)

-- the steps below a bound that are closed
pub record Closes (p : Problem) (bound : ℕ) (r : StepSet) : Type 0 where
  pub there : (o : ℕ) → o < bound → ((step p o).enabled ≢ true) → step_in r o ≡ true
  pub why : (o : ℕ) → step_in r o ≡ true → (o < bound) × ((step p o).enabled ≢ true)

-- the literals of the problem's facts that hold at the start
pub record Starts (p : Problem) (r : LiteralSet) : Type 0 where
  pub there : (l : Literal) → fact l < p.facts → Holds (start_state p) l → lit_in r l ≡ true
  pub why : (l : Literal) → lit_in r l ≡ true → (fact l < p.facts) × Holds (start_state p) l

-- every set is empty
pub record Blank (ix : Index) : Type 0 where
  pub needs : (o l : ℕ) → number_in (slice_index_or ix.needs o no_literals) l ≡ false
  pub makes : (o l : ℕ) → number_in (slice_index_or ix.makes o no_literals) l ≡ false
  pub rivals : (o i : ℕ) → step_in (slice_index_or ix.rivals o no_steps) i ≡ false
  pub makers : (l o : ℕ) → step_in (slice_index_or ix.makers l no_steps) o ≡ false
  pub needers : (l o : ℕ) → step_in (slice_index_or ix.needers l no_steps) o ≡ false
  pub clauses : (a b : ℕ) → number_in (slice_index_or ix.clauses a no_literals) b ≡ false
  pub start : (l : ℕ) → number_in ix.start l ≡ false
  pub goal : (l : ℕ) → number_in ix.goal l ≡ false
  pub closed : (o : ℕ) → step_in ix.closed o ≡ false
