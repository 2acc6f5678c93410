-- A search as it begins. Assumes nothing.
use Rattle.std.proofs.Common.{◌≡◌, ℕ, ◌*◌, ◌<◌, ◌≤◌, true, ◌&&◌, ltb, leb, ◌⊎◌, List, get_or, sym, ◌∙◌, inl, inr, ⊎_elim, zero-mul, arith, Option}
use mathlib.Core.Logic.{∥∥₁_map, ∥∥₁_elim}
use native.Mathlib.Bridge.{le_prop}
use Rattle.sets.specs.Literals.{Literal, lit, code}
use Rattle.sets.specs.Sets.{lit_in, no_literals}
use Rattle.sets.specs.declared.facts.LiteralSet.{LiteralSet}
use Rattle.std.proofs.lemmas.Bool.Decides.{nat_tests}
use Rattle.std.proofs.lemmas.Bool.{cases_Bool, and_parts, cond-true, cond-false}
use Rattle.model.specs.declared.cell.Cell.{Cell}
use Rattle.model.specs.declared.table.ProblemTable.{ProblemTable}
use Rattle.model.specs.Problems.{Problem, WellFormed, steps}
use Rattle.model.specs.Plans.{Pin, Pins, unpinned, take, leave}
use Rattle.model.specs.Held.{problem_of}
use Rattle.model.specs.Clauses.{Clauses, Largest}
use Rattle.model.specs.Firsts.{Ordered}
use Rattle.model.specs.Rankings.{ranked}
use Rattle.marks.specs.declared.tables.Marks.{Marks}
use Rattle.marks.specs.declared.index.Index.{Index}
use Rattle.marks.specs.declared.cells.CellSides.{CellSides}
use Rattle.marks.specs.Pinning.{with_pin, pins_of}
use Rattle.clauses.specs.Waiting.{kept_in}
use Rattle.search.specs.declared.tables.Search.{Search}
use Rattle.marks.specs.Meaning.{Means, clauses_of}
use Rattle.marks.specs.Deciding.{Begun}
use Rattle.marks.specs.Cells.{CellsOf}
use Rattle.search.specs.declared.level.Level.{Level}
use Rattle.search.specs.Pinned.{InRange, is_cell}
use Rattle.search.specs.Ordering.{places_in}
use Rattle.search.specs.Sound.{Sound}
use Rattle.search.proofs.PinnedPath.{at_cell}
use Rattle.search.proofs.Sounding.{sound_begin}
use Rattle.search.proofs.Searches.{few_rows}

-- a table's problem keeps the limits
pub table_well : (t : ProblemTable) → WellFormed (problem_of t)
table_well t = record {
  some_fact = t.some;
  few_facts = t.few_facts;
  few_steps = few_rows t;
  start_in_range = t.start_in;
  needs_in_range = t.needs_in;
  makes_in_range = t.makes_in;
  goal_in_range = t.goal_in;
  needs_agree = t.needs_agree;
  makes_agree = t.makes_agree;
  goal_agrees = t.goal_agrees;
}

-- the index means the clauses that the rows hold
pub means_kept : (ix : Index) (p : Problem) (rows : List LiteralSet) (V : Clauses) → ((a b : Literal) → lit_in (get_or rows (code a) no_literals) b ≡ V a b)
    → Means ix p (clauses_of rows) → Means ix p V
means_kept ix p rows V e w = record {
  needs = w.needs;
  needers = w.needers;
  makes = w.makes;
  rivals = w.rivals;
  all_rivals = w.all_rivals;
  clauses = λ a b. w.clauses a b ∙ e (lit a) (lit b);
  start = w.start;
  all_start = w.all_start;
  goal = w.goal;
  closed = w.closed;
  all_closed = w.all_closed;
}

-- at length 0 there is no cell
ordered_none : (m : ℕ) (order : List Cell) → Ordered 0 m (places_in order)
ordered_none m order = record {
  place_below = λ c r q. absurd (omega arith);
  cell_below = λ k h. absurd (omega (arith, zero-mul m));
  cell_of_place = λ c r q. absurd (omega arith);
  place_of_cell = λ k h. absurd (omega (arith, zero-mul m));
}

pinned_not : (x : Pin) → x ≡ unpinned → (x ≡ take) ⊎ (x ≡ leave) → ⊥
pinned_not x e (inl h) = cc
pinned_not x e (inr h) = cc

pub range_none : (pins : Pins) (T m : ℕ) → ((t o : ℕ) → pins t o ≡ unpinned) → InRange pins T m
range_none pins T m free t o h = absurd (pinned_not (pins t o) (free t o) h)

-- one cell pinned: it is in range, or free
pub range_with : (pins new : Pins) (T m : ℕ) (c : Cell) (pin : Pin) → ((c.time < T) × (c.step < m)) ⊎ (pin ≡ unpinned) → InRange pins T m
    → ((t o : ℕ) → new t o ≡ with_pin pins c pin t o) → InRange new T m
range_with pins new T m c pin inside r w t o h = ⊎_elim
    (λ b. let e = w t o ∙ cond-true _ _ _ b in ⊎_elim
    (λ i. let q = at_cell c t o (and_parts (ltb c.time 32) (is_cell c t o) b).1 in (omega (arith, q.0, i.0), omega (arith, q.1, i.1)))
    (λ u. absurd (pinned_not (new t o) (e ∙ u) h)) inside)
    (λ b. let e = w t o ∙ cond-false _ _ _ b in r t o (⊎_elim (λ k. inl (sym e ∙ k)) (λ k. inr (sym e ∙ k)) h))
    (cases_Bool (ltb c.time 32 && is_cell c t o))

-- a search of a problem just taken up
pub opens : (t : ProblemTable) {V : Clauses} {ix : Index} {order : List Cell} {pins : Pins} {root : Option CellSides} {m : Marks} {ls : List Level} {n : ℕ}
    → Largest (problem_of t) V → Means ix (problem_of t) V → ((t o : ℕ) → pins t o ≡ unpinned) → Begun ix pins 0 m → CellsOf m root → n ≡ 0
    → ∥ Sound (problem_of t) V ix 0 order pins root m ls n ∥₁
opens t {order = order} {pins = pins} largest means free b k none =
    ∣ sound_begin (table_well t) largest means (ordered_none (steps (problem_of t)) order) (range_none pins 0 (steps (problem_of t)) free) b k none ∣₁

-- what a search keeps of its problem, as it begins anew
module _ (s : Search) where
  pub begins_anew : {T : ℕ} {order : List Cell} {pins : Pins} {root : Option CellSides} {m : Marks} {ls : List Level} {n : ℕ} → Ordered T (steps (problem_of s.problem)) (places_in order)
      → InRange pins T (steps (problem_of s.problem)) → Begun s.index pins T m → CellsOf m root → n ≡ 0
      → ∥ Sound (problem_of s.problem) (kept_in s.clauses) s.index T order pins root m ls n ∥₁
  begins_anew ordered range b k none = ∥∥₁_map s.sound (λ x. sound_begin x.well x.largest x.means ordered range b k none)

  -- with other pins alone
  pub pins_anew : {pins : Pins} {root : Option CellSides} {m : Marks} {ls : List Level} {n : ℕ} → InRange pins s.length (steps (problem_of s.problem))
      → Begun s.index pins s.length m → CellsOf m root → n ≡ 0
      → ∥ Sound (problem_of s.problem) (kept_in s.clauses) s.index s.length s.order pins root m ls n ∥₁
  pins_anew range b k none = ∥∥₁_map s.sound (λ x. sound_begin x.well x.largest x.means x.ordered range b k none)

  pub range_now : InRange (pins_of s.pins) s.length (steps (problem_of s.problem))
  range_now t o h = (∥∥₁_elim s.sound le_prop (λ x. (x.range t o h).0), ∥∥₁_elim s.sound le_prop (λ x. (x.range t o h).1))

-- an order that fits its table
pub fits_true : (T m n : ℕ) → T ≤ 32 → m ≤ 256 → T * m ≤ n → (ranked T m && leb (T * m) n) ≡ true
fits_true T m n a b c = grind (arith, nat_tests)
