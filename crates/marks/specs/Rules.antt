-- The rules over an index, and the marks that they force. Assumes nothing.
use Rattle.std.specs.Prelude.{◌≡◌, ℕ, ◌+◌, ◌<◌, Bool, true, false, ◌&&◌, ◌||◌, ◌⊎◌, ◌==◌, ◌≢◌, nat_lt, slice_index_or}
use Rattle.sets.specs.Sets.{step_in, no_literals, no_steps}
use Rattle.sets.specs.declared.facts.LiteralSet.{LiteralSet}
use Rattle.sets.specs.declared.steps.StepSet.{StepSet}
use Rattle.model.specs.Plans.{Pins as PinsOf}
use Rattle.marks.specs.declared.mark.Mark.{Mark}
use Rattle.marks.specs.declared.mark.Mark.TheVariants.{Fact, Taken, LeftOut}
use Rattle.marks.specs.declared.tables.Marks.{Marks}
use Rattle.marks.specs.declared.index.Index.{Index}
use Rattle.marks.specs.declared.pins.Pins.{Pins}
use Rattle.marks.specs.Tables.{number_in, opp, opp_lit, in_trail}
use Rattle.marks.specs.Pinning.{says_take, says_leave}
use Rattle.marks.specs.Grows.{on, Has, Grows}

abbrev pub Maker : Index → ℕ → ℕ → Type 0
Maker ix l o = step_in (slice_index_or ix.makers l no_steps) o ≡ true

abbrev pub On : Marks → Mark → Type 0
On m x = on m x ≡ true

-- the marks `left out at t` of a set of steps, and `true at t` of a set of literals
abbrev pub LeavesOut : StepSet → ℕ → Mark → Type 0
LeavesOut s t y = (o : ℕ) × (step_in s o ≡ true) × (y ≡ LeftOut t o)

abbrev pub Holds : LiteralSet → ℕ → Mark → Type 0
Holds s t y = (l : ℕ) × (number_in s l ≡ true) × (y ≡ Fact t l)

abbrev pub Takes : StepSet → ℕ → Mark → Type 0
Takes s t y = (o : ℕ) × (step_in s o ≡ true) × (y ≡ Taken t o)

module _ (ix : Index) (P : Mark → Type 0) where
  -- all makers of the literal are left out at t
  abbrev pub NoMaker : ℕ → ℕ → Type 0
  NoMaker t l = (o : ℕ) → Maker ix l o → P (LeftOut t o)

  -- all makers of the literal but o are left out at t
  abbrev pub NoMakerBut : ℕ → ℕ → ℕ → Type 0
  NoMakerBut o t l = (i : ℕ) → (i ≢ o) → Maker ix l i → P (LeftOut t i)

  -- what follows at t from the marks on the literal and on its makers
  pub data Follows (t l : ℕ) : Mark → Type 0 where
    f_stays_false : NoMaker t l → P (Fact t (opp_lit l)) → Follows t l (Fact (t + 1) (opp_lit l))
    f_was_true : NoMaker t l → P (Fact (t + 1) l) → Follows t l (Fact t l)
    f_only_maker : (o : ℕ) → Maker ix l o → NoMakerBut o t l → P (Fact t (opp_lit l)) → P (Fact (t + 1) l) → Follows t l (Taken t o)

  -- the same, but the only maker is not left out itself
  pub data Concluded (t l : ℕ) : Mark → Type 0 where
    stays_false : NoMaker t l → P (Fact t (opp_lit l)) → Concluded t l (Fact (t + 1) (opp_lit l))
    was_true : NoMaker t l → P (Fact (t + 1) l) → Concluded t l (Fact t l)
    only_maker : (o : ℕ) → Maker ix l o → (P (LeftOut t o) → ⊥) → NoMakerBut o t l → P (Fact t (opp_lit l)) → P (Fact (t + 1) l) → Concluded t l (Taken t o)

abbrev pub Needs : Index → ℕ → ℕ → Type 0
Needs ix o l = number_in (slice_index_or ix.needs o no_literals) l ≡ true

abbrev pub Makes : Index → ℕ → ℕ → Type 0
Makes ix o l = number_in (slice_index_or ix.makes o no_literals) l ≡ true

abbrev pub Rival : Index → ℕ → ℕ → Type 0
Rival ix o i = step_in (slice_index_or ix.rivals o no_steps) i ≡ true

abbrev pub Needer : Index → ℕ → ℕ → Type 0
Needer ix l o = step_in (slice_index_or ix.needers l no_steps) o ≡ true

abbrev pub Clause : Index → ℕ → ℕ → Type 0
Clause ix a b = number_in (slice_index_or ix.clauses a no_literals) b ≡ true

-- every rule with its premises in P has its conclusion in Q
pub record Rules (ix : Index) (T : ℕ) (P Q : Mark → Type 0) : Type 0 where
  pub needs : (t o l : ℕ) → P (Taken t o) → Needs ix o l → Q (Fact t l)
  pub makes : (t o l : ℕ) → P (Taken t o) → Makes ix o l → Q (Fact (t + 1) l)
  pub rivals : (t o i : ℕ) → P (Taken t o) → Rival ix o i → Q (LeftOut t i)
  pub need_false : (t l o : ℕ) → t < T → P (Fact t l) → Needer ix (opp_lit l) o → Q (LeftOut t o)
  pub make_false : (t l o : ℕ) → t < T → P (Fact (t + 1) l) → Maker ix (opp_lit l) o → Q (LeftOut t o)
  pub clause : (t l b : ℕ) → P (Fact t l) → Clause ix (opp_lit l) b → Q (Fact t b)
  pub follows : (t l : ℕ) → t < T → (y : Mark) → Follows ix P t l y → Q y

-- what every set of marks holds that has the seeds and is closed under the rules
abbrev pub Forced : Index → ℕ → (Mark → Bool) → Mark → Type 0
Forced ix T seed x = (M : Mark → Bool) → Rules ix T (λ y. M y ≡ true) (λ y. M y ≡ true) → ((y : Mark) → seed y ≡ true → M y ≡ true) → M x ≡ true

abbrev pub Contradiction : (Mark → Type 0) → Type 0
Contradiction F = (y : Mark) × F y × F (opp y)

-- whatever is on is forced
pub record Good (ix : Index) (seed : Mark → Bool) (m : Marks) : Type 0 where
  pub sound : (x : Mark) → On m x → Forced ix m.length seed x
  pub broken : m.conflict ≡ true → Contradiction (Forced ix m.length seed)

-- the marks grew by what is forced
pub record Worked (ix : Index) (a b : Marks) : Type 0 where
  pub grows : Grows a b
  pub good : (seed : Mark → Bool) → Good ix seed a → Good ix seed b

-- every rule that has the mark among its premises, and the others in P, has its conclusion in Q
pub record CoversTaken (ix : Index) (Q : Mark → Type 0) (t o : ℕ) : Type 0 where
  pub needs : (l : ℕ) → Needs ix o l → Q (Fact t l)
  pub makes : (l : ℕ) → Makes ix o l → Q (Fact (t + 1) l)
  pub rivals : (i : ℕ) → Rival ix o i → Q (LeftOut t i)

abbrev pub CoversLeft : Index → (Mark → Type 0) → (Mark → Type 0) → ℕ → ℕ → Type 0
CoversLeft ix P Q t o = (l : ℕ) → Makes ix o l → (y : Mark) → Follows ix P t l y → Q y

pub record CoversFact (ix : Index) (T : ℕ) (P Q : Mark → Type 0) (t l : ℕ) : Type 0 where
  pub need_false : t < T → (o : ℕ) → Needer ix (opp_lit l) o → Q (LeftOut t o)
  pub make_false : (u : ℕ) → t ≡ u + 1 → (o : ℕ) → Maker ix (opp_lit l) o → Q (LeftOut u o)
  pub clause : (b : ℕ) → Clause ix (opp_lit l) b → Q (Fact t b)
  pub from_here : t < T → (y : Mark) → Follows ix P t (opp_lit l) y → Q y
  pub to_here : (u : ℕ) → t ≡ u + 1 → (y : Mark) → Follows ix P u l y → Q y

abbrev pub Covers : Index → ℕ → (Mark → Type 0) → (Mark → Type 0) → Mark → Type 0
Covers ix T P Q (Taken t o) = CoversTaken ix Q t o
Covers ix T P Q (LeftOut t o) = CoversLeft ix P Q t o
Covers ix T P Q (Fact t l) = CoversFact ix T P Q t l

-- the mark was processed
abbrev pub Done : Marks → Mark → Type 0
Done m x = in_trail m.trail m.head x ≡ true

-- every rule whose premises were processed has its conclusion on
abbrev pub Settled : Index → Marks → Type 0
Settled ix m = Rules ix m.length (Done m) (Has m)

-- the marks are exactly what the seeds force, or they say rightly that it contradicts
pub record Exactly (ix : Index) (seed : Mark → Bool) (m : Marks) : Type 0 where
  pub sound : (x : Mark) → On m x → Forced ix m.length seed x
  pub complete : m.conflict ≡ false → (x : Mark) → Forced ix m.length seed x → On m x
  pub broken : m.conflict ≡ true → Contradiction (Forced ix m.length seed)
  pub tells : Contradiction (Forced ix m.length seed) → m.conflict ≡ true

-- the marks given from outside: the start at time 0, the goal at the length, each pin at its cell, and closed steps left out
abbrev pub seeds : Index → PinsOf → ℕ → Mark → Bool
seeds ix places T (Fact t l) = (t == 0 && number_in ix.start l) || (t == T && number_in ix.goal l)
seeds ix places T (Taken t o) = nat_lt t T && says_take (places t o)
seeds ix places T (LeftOut t o) = nat_lt t T && (step_in ix.closed o || says_leave (places t o))

-- the marks given for the cells of one time
abbrev pub Pinned : Index → Pins → ℕ → Mark → Type 0
Pinned ix pins t y = LeavesOut ix.closed t y ⊎ (LeavesOut (slice_index_or pins.cells.left t no_steps) t y ⊎ Takes (slice_index_or pins.cells.taken t no_steps) t y)

-- the seeds and one mark more
pub record OneMore (seed : Mark → Bool) (x : Mark) (more : Mark → Bool) : Type 0 where
  pub old : (y : Mark) → seed y ≡ true → more y ≡ true
  pub here : more x ≡ true
  pub only : (y : Mark) → more y ≡ true → (seed y ≡ true) ⊎ (y ≡ x)

-- the marks are at rest: nothing awaits to be processed, or they contradict, and they are exactly what the seeds force
pub record Rest (ix : Index) (seed : Mark → Bool) (m : Marks) : Type 0 where
  pub settled : Settled ix m
  pub done : (m.conflict ≡ true) ⊎ (m.head ≡ m.len)
  pub exact : Exactly ix seed m
