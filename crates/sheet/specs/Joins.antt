-- One literal more in a list. Assumes nothing.
use Rattle.std.specs.Prelude.{◌≡◌, ℕ, Bool, true, false, ◌⊎◌, List, get_or, Result, MatchResult, slice_index_or, slice_set}
use Rattle.sets.specs.Literals.{Literal}
use Rattle.sets.specs.Sets.{lit_in, with_literal}
use Rattle.sets.specs.declared.facts.LiteralSet.{LiteralSet}
use Rattle.sheet.specs.Job.{JobStep, no_step, literal, mentions}
use Rattle.sheet.specs.declared.fault.Place.{Place}
use Rattle.sheet.specs.declared.fault.SheetFault.{SheetFault}
use Rattle.sheet.specs.declared.fault.SheetFault.TheVariants as sheet_is

-- the list has the literal too, and no other
pub record With (s : LiteralSet) (l : Literal) (s' : LiteralSet) : Type 0 where
  pub value : s' ≡ with_literal s l
  pub members : (m : Literal) → lit_in s' m ≡ true → (lit_in s m ≡ true) ⊎ (m ≡ l)

-- the fact stood in the list with neither sign, and now stands there with the sign told
pub record Joined (s : LiteralSet) (f : ℕ) (negative : Bool) (s' : LiteralSet) : Type 0 where
  pub free : mentions s f ≡ false
  pub more : With s (literal negative f) s'

-- a literal joins a list, or its fact stands there already and the list is as it was
abbrev pub Joins : LiteralSet → ℕ → Bool → Place → Result (Unit {0}) SheetFault → LiteralSet → Type 0
Joins s f negative w r s' = MatchResult r (λ _. Joined s f negative s') (λ e. (mentions s f ≡ true) × (e ≡ sheet_is.Repeated w) × (s' ≡ s))

abbrev pub with_needs : LiteralSet → JobStep → JobStep
with_needs n s = record { name = s.name; needs = n; makes = s.makes }

abbrev pub with_makes : LiteralSet → JobStep → JobStep
with_makes n s = record { name = s.name; needs = s.needs; makes = n }

-- the literal joins the needs, or the makes, of the step at place i, and all else stays
abbrev pub NeedJoins : List JobStep → ℕ → ℕ → Bool → Place → Result (Unit {0}) SheetFault → List JobStep → Type 0
NeedJoins js i f negative w r ks = (n : LiteralSet) × (ks ≡ slice_set js i (with_needs n (slice_index_or js i no_step))) × Joins (get_or js i no_step).needs f negative w r n

abbrev pub MakeJoins : List JobStep → ℕ → ℕ → Bool → Place → Result (Unit {0}) SheetFault → List JobStep → Type 0
MakeJoins js i f negative w r ks = (n : LiteralSet) × (ks ≡ slice_set js i (with_makes n (slice_index_or js i no_step))) × Joins (get_or js i no_step).makes f negative w r n
