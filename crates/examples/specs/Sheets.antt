-- The two-step sheet with what it states, and a line of the stated form beside one that is not. Assumes nothing.
use Rattle.std.specs.Prelude.{ℕ, List, [], ◌∷◌, codes}
use Rattle.sets.specs.Literals.{pos, neg}
use Rattle.model.specs.Problems.{Problem}
use Rattle.sources.specs.Listed.{facts_of, literals_of}
use Rattle.sheet.specs.Job.{Job, problem_in}
use Rattle.sheet.specs.Sheet.{Reads}
use Rattle.sheet.specs.Statement.{Statement, Prints}
use Rattle.examples.specs.Plans.{lines}

-- something wet has to be dry before the part is fitted
abbrev pub two_step_sheet : List ℕ
two_step_sheet = lines (
    codes "MXP 1" ∷ codes "l 2"
    ∷ codes "f wet" ∷ codes "f done"
    ∷ codes "t wet" ∷ codes "w done"
    ∷ codes "s dry" ∷ codes "n wet" ∷ codes "m -wet"
    ∷ codes "s fit" ∷ codes "n -wet" ∷ codes "m done"
    ∷ [])

-- fact 0 is wet, fact 1 is done; step 0 is dry, step 1 is fit
abbrev pub two_step_job : Job
two_step_job = record {
  times = 2;
  facts = codes "wet" ∷ codes "done" ∷ [];
  start = facts_of (0 ∷ []);
  goal = literals_of (pos 1 ∷ []);
  steps = record { name = codes "dry"; needs = literals_of (pos 0 ∷ []); makes = literals_of (neg 0 ∷ []) }
      ∷ record { name = codes "fit"; needs = literals_of (neg 0 ∷ []); makes = literals_of (pos 1 ∷ []) } ∷ [];
}

abbrev pub two_steps : Problem
two_steps = problem_in two_step_job

-- the sheet states the job
abbrev pub SheetStates : Type 0
SheetStates = Reads two_step_sheet two_step_job

-- `n -gap` is how a statement is printed; `n Gap` is the print of none, since a name begins with a small letter
pub record Forms : Type 0 where
  pub states : Statement
  pub of_the_form : Prints states (codes "n -gap")
  pub not_of_the_form : (t : Statement) → Prints t (codes "n Gap") → ⊥
