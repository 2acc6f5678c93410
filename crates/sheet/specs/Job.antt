-- What the lines of a sheet state, line by line: the job, and what each line adds to it. Assumes nothing.
use Rattle.std.specs.Prelude.{◌≡◌, ℕ, ◌-◌, ◌<◌, ◌≤◌, Bool, true, false, cond, ◌||◌, ◌≢◌, ◌⊎◌, List, [], ◌∷◌, ◌++◌, map, length as size, ◌==◌, slice_index_or, slice_set}
use Rattle.sets.specs.Literals.{Literal, pos, neg}
use Rattle.sets.specs.Sets.{fact_in, lit_in, with_fact, with_literal, no_facts, no_literals}
use Rattle.sets.specs.declared.facts.FactSet.{FactSet}
use Rattle.sets.specs.declared.facts.LiteralSet.{LiteralSet}
use Rattle.model.specs.Problems.{Problem}
use Rattle.model.specs.declared.step.Step.{Step}
use Rattle.sheet.specs.Entry.{Unknown, Stands}
use Rattle.sheet.specs.Statement.{Statement, version, length, fact, holds, wanted, step, need, make}
use Rattle.sheet.specs.declared.fault.Place.{Place}
use Rattle.sheet.specs.declared.fault.SheetFault.{SheetFault}
use Rattle.sheet.specs.declared.fault.SheetFault.TheVariants as sheet_is

-- a step as the lines after its own have filled it so far
pub record JobStep : Type 0 where
  pub name : List ℕ
  pub needs : LiteralSet
  pub makes : LiteralSet

-- what has been stated so far: the length, the names of the facts, which are true at the start, what is wanted, the steps
pub record Job : Type 0 where
  pub times : ℕ
  pub facts : List (List ℕ)
  pub start : FactSet
  pub goal : LiteralSet
  pub steps : List JobStep

-- nothing has been stated
abbrev pub no_job : Job
no_job = record { times = 0; facts = []; start = no_facts; goal = no_literals; steps = [] }

-- the problem that a job is: its steps are open; where no fact is named there is one all the same, false at the start
abbrev pub open_step : JobStep → Step
open_step s = record { enabled = true; needs = s.needs; makes = s.makes }

abbrev pub problem_in : Job → Problem
problem_in j = record {
  facts = cond (size j.facts == 0) 1 (size j.facts);
  rows = map open_step j.steps;
  start = j.start;
  goal = j.goal;
}

-- a minus before the name means false
abbrev pub literal : Bool → ℕ → Literal
literal negative f = cond negative (neg f) (pos f)

-- the fact stands in the list, with either sign
abbrev pub mentions : LiteralSet → ℕ → Bool
mentions s f = lit_in s (pos f) || lit_in s (neg f)

-- the newest step
abbrev pub no_step : JobStep
no_step = record { name = []; needs = no_literals; makes = no_literals }

abbrev pub newest : Job → JobStep
newest j = slice_index_or j.steps (size j.steps - 1) no_step

-- the job with one thing more
abbrev pub asking : ℕ → Job → Job
asking n j = record { times = n; facts = j.facts; start = j.start; goal = j.goal; steps = j.steps }

abbrev pub naming : List ℕ → Job → Job
naming name j = record { times = j.times; facts = j.facts ++ name ∷ []; start = j.start; goal = j.goal; steps = j.steps }

abbrev pub starting : ℕ → Job → Job
starting f j = record { times = j.times; facts = j.facts; start = with_fact j.start f; goal = j.goal; steps = j.steps }

abbrev pub wanting : Literal → Job → Job
wanting l j = record { times = j.times; facts = j.facts; start = j.start; goal = with_literal j.goal l; steps = j.steps }

abbrev pub stepping : List ℕ → Job → Job
stepping name j = record {
  times = j.times;
  facts = j.facts;
  start = j.start;
  goal = j.goal;
  steps = j.steps ++ record { name = name; needs = no_literals; makes = no_literals } ∷ [];
}

-- need and make lines add to the newest step
abbrev pub amending : JobStep → Job → Job
amending s j = record { times = j.times; facts = j.facts; start = j.start; goal = j.goal; steps = slice_set j.steps (size j.steps - 1) s }

abbrev pub needing : Literal → Job → Job
needing l j = amending (record { name = (newest j).name; needs = with_literal (newest j).needs l; makes = (newest j).makes }) j

abbrev pub making : Literal → Job → Job
making l j = amending (record { name = (newest j).name; needs = (newest j).needs; makes = with_literal (newest j).makes l }) j

abbrev pub step_names : Job → List (List ℕ)
step_names j = map (λ (s : JobStep). s.name) j.steps

-- the name names fact f
abbrev pub Names : Job → List ℕ → ℕ → Type 0
Names j name f = Stands j.facts name f

-- the line t may be added to job j, and k is j with what t states
abbrev pub Adds : Job → Statement → Job → Type 0
Adds j (version n) k = (n ≡ 1) × (k ≡ j)
Adds j (length n) k = (n ≤ 32) × (k ≡ asking n j)
Adds j (fact name) k = Unknown j.facts name × (size j.facts < 64) × (k ≡ naming name j)
Adds j (holds name) k = (f : ℕ) × Names j name f × (fact_in j.start f ≡ false) × (k ≡ starting f j)
Adds j (wanted b name) k = (f : ℕ) × Names j name f × (mentions j.goal f ≡ false) × (k ≡ wanting (literal b f) j)
Adds j (step name) k = Unknown (step_names j) name × (size j.steps < 256) × (k ≡ stepping name j)
Adds j (need b name) k = (f : ℕ) × Names j name f × (mentions (newest j).needs f ≡ false) × (k ≡ needing (literal b f) j)
Adds j (make b name) k = (f : ℕ) × Names j name f × (mentions (newest j).makes f ≡ false) × (k ≡ making (literal b f) j)

-- where the field of a line begins: after `MXP` and a blank, or after one letter and a blank
abbrev pub field : Statement → ℕ
field (version n) = 5
field (length n) = 3
field (fact name) = 3
field (holds name) = 3
field (wanted b name) = 3
field (step name) = 3
field (need b name) = 3
field (make b name) = 3

-- why the line t may not be added to job j: the first check that fails, in the order 5, 11, 7, 8, 9
abbrev pub Flawed : Job → Statement → Place → SheetFault → Type 0
Flawed j (version n) w e = (n ≢ 1) × (e ≡ sheet_is.Version w)
Flawed j (length n) w e = (32 < n) × (e ≡ sheet_is.Length w)
Flawed j (fact name) w e =
    ((f : ℕ) × Stands j.facts name f × (e ≡ sheet_is.Repeated w)) ⊎
    (Unknown j.facts name × (64 ≤ size j.facts) × (e ≡ sheet_is.Full w))
Flawed j (holds name) w e =
    (Unknown j.facts name × (e ≡ sheet_is.UnknownFact w)) ⊎
    ((f : ℕ) × Names j name f × (fact_in j.start f ≡ true) × (e ≡ sheet_is.Repeated w))
Flawed j (wanted b name) w e =
    (Unknown j.facts name × (e ≡ sheet_is.UnknownFact w)) ⊎
    ((f : ℕ) × Names j name f × (mentions j.goal f ≡ true) × (e ≡ sheet_is.Repeated w))
Flawed j (step name) w e =
    ((o : ℕ) × Stands (step_names j) name o × (e ≡ sheet_is.Repeated w)) ⊎
    (Unknown (step_names j) name × (256 ≤ size j.steps) × (e ≡ sheet_is.Full w))
Flawed j (need b name) w e =
    (Unknown j.facts name × (e ≡ sheet_is.UnknownFact w)) ⊎
    ((f : ℕ) × Names j name f × (mentions (newest j).needs f ≡ true) × (e ≡ sheet_is.Repeated w))
Flawed j (make b name) w e =
    (Unknown j.facts name × (e ≡ sheet_is.UnknownFact w)) ⊎
    ((f : ℕ) × Names j name f × (mentions (newest j).makes f ≡ true) × (e ≡ sheet_is.Repeated w))
