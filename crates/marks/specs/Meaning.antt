-- What an index means: a problem and its clauses. Assumes nothing.
use Rattle.std.specs.Prelude.{◌≡◌, ℕ, ◌<◌, true, false, List, ◌≢◌, slice_index_or}
use Rattle.sets.specs.Literals.{lit, code, fact}
use Rattle.sets.specs.Sets.{step_in, lit_in, no_literals, no_steps}
use Rattle.sets.specs.declared.facts.LiteralSet.{LiteralSet}
use Rattle.model.specs.Problems.{Problem, steps, step, start_state, Interfere, Holds}
use Rattle.model.specs.Plans.{Pins as PinsOf}
use Rattle.model.specs.Clauses.{Clauses}
use Rattle.model.specs.Marks.{true_at, taken, left_out, Mark as MarkOf, Forced as ForcedBy, Contradiction as ContradictionOf}
use Rattle.marks.specs.declared.mark.Mark.{Mark}
use Rattle.marks.specs.declared.mark.Mark.TheVariants.{Fact, Taken, LeftOut}
use Rattle.marks.specs.declared.tables.Marks.{Marks}
use Rattle.marks.specs.declared.index.Index.{Index}
use Rattle.marks.specs.Tables.{number_in}
use Rattle.marks.specs.Grows.{on}
use Rattle.marks.specs.Rules.{Rival}

-- a mark of the problem as one over literal numbers, and back
abbrev pub encode : MarkOf → Mark
encode (true_at l t) = Fact t (code l)
encode (taken t o) = Taken t o
encode (left_out t o) = LeftOut t o

abbrev pub decode : Mark → MarkOf
decode (Fact t l) = true_at (lit l) t
decode (Taken t o) = taken t o
decode (LeftOut t o) = left_out t o

-- a table of literals has, by a literal's number, those that share a clause with it
abbrev pub clauses_of : List LiteralSet → Clauses
clauses_of kept = λ a b. lit_in (slice_index_or kept (code a) no_literals) b

-- each table of the index says of each number what the problem and the clauses say
pub record Means (ix : Index) (p : Problem) (V : Clauses) : Type 0 where
  pub needs : (o l : ℕ) → number_in (slice_index_or ix.needs o no_literals) l ≡ number_in (step p o).needs l
  pub needers : (l o : ℕ) → step_in (slice_index_or ix.needers l no_steps) o ≡ number_in (step p o).needs l
  pub makes : (o l : ℕ) → number_in (slice_index_or ix.makes o no_literals) l ≡ number_in (step p o).makes l
  pub rivals : (o i : ℕ) → Rival ix o i → (i < steps p) × Interfere p o i
  pub all_rivals : (o i : ℕ) → i < steps p → Interfere p o i → Rival ix o i
  pub clauses : (a b : ℕ) → number_in (slice_index_or ix.clauses a no_literals) b ≡ V (lit a) (lit b)
  pub start : (l : ℕ) → number_in ix.start l ≡ true → (fact (lit l) < p.facts) × Holds (start_state p) (lit l)
  pub all_start : (l : ℕ) → fact (lit l) < p.facts → Holds (start_state p) (lit l) → number_in ix.start l ≡ true
  pub goal : (l : ℕ) → number_in ix.goal l ≡ number_in p.goal l
  pub closed : (o : ℕ) → step_in ix.closed o ≡ true → (o < steps p) × ((step p o).enabled ≢ true)
  pub all_closed : (o : ℕ) → o < steps p → ((step p o).enabled ≢ true) → step_in ix.closed o ≡ true

-- the marks are the least closed set of the problem's rules, or they say rightly that it contradicts
pub record Tells (p : Problem) (places : PinsOf) (V : Clauses) (m : Marks) : Type 0 where
  pub broken : m.conflict ≡ true → ContradictionOf (ForcedBy p m.length places V)
  pub whole : ContradictionOf (ForcedBy p m.length places V) → m.conflict ≡ true
  pub sound : (x : MarkOf) → on m (encode x) ≡ true → ForcedBy p m.length places V x
  pub complete : m.conflict ≡ false → (x : MarkOf) → ForcedBy p m.length places V x → on m (encode x) ≡ true
