-- What answers a job: its card. Assumes nothing.
use Rattle.std.specs.Prelude.{◌≡◌, ℕ, ◌*◌, ◌≤◌, ◌⊎◌, List, Ok, Err, Result}
use Rattle.model.specs.declared.answers.Decline.{Decline}
use Rattle.model.specs.declared.answers.Decline.TheVariants.{TooShort}
use Rattle.model.specs.declared.cell.Cell.{Cell}
use Rattle.model.specs.declared.path.Entry.{Entry}
use Rattle.model.specs.Problems.{Problem, steps}
use Rattle.model.specs.Plans.{Cells, IsPlan}
use Rattle.model.specs.Singly.{Unbroken}
use Rattle.model.specs.Paths.{passed}
use Rattle.model.specs.Choices.{Fair}
use Rattle.model.specs.Firsts.{First, None, NoneLeft}
use Rattle.sources.specs.Built.{forward}
use Rattle.sources.specs.Reach.{Filters}
use Rattle.sheet.specs.declared.fault.SheetFault.{SheetFault}
use Rattle.sheet.specs.Job.{Job, problem_in}
use Rattle.sheet.specs.Sheet.{Reads, Refused}
use Rattle.sheet.specs.Fault.{fault_line}
use Rattle.text.specs.Written.{Stands, TooFew}
use Rattle.text.specs.Cards.{card_of, none_card, not_yet_card}
use Rattle.planner.specs.declared.tables.Planner.{Planner}
use Rattle.planner.specs.Ledger.{Ledger.asked, no_pins, cells_upto}
use Rattle.planner.specs.Obeys.{ledger}

-- the plans that a job asks for, and how many steps it has
abbrev pub PlanOf : Job → Cells → Type 0
PlanOf j = IsPlan (problem_in j) j.times

abbrev pub step_count : Job → ℕ
step_count j = steps (problem_in j)

-- the cell at a place, time by time
abbrev pub cell_in : Job → ℕ → Cell
cell_in j = forward.cell j.times (step_count j)

-- the cards that may answer a job: that of its first plan, time by time, which no order of one time's steps breaks; `none`, where it has
-- no plan; and `not yet`, where a search has passed a thousand million places of a path and no plan lies left of it
pub data JobCard (j : Job) : List ℕ → Type 0 where
  first_plan : (c : Cells) → First (PlanOf j) j.times (step_count j) (cell_in j) c → Unbroken (problem_in j) c
      → JobCard j (card_of c (step_count j) j.times)
  no_plan : None (PlanOf j) → JobCard j none_card
  still_open : (path : List Entry) → Fair j.times (step_count j) no_pins path → 1000000000 ≤ passed (j.times * step_count j) path
      → NoneLeft (PlanOf j) path → JobCard j not_yet_card

-- the text is written whole, or there are too few bytes for it and they stand as before
abbrev pub Written : List ℕ → List ℕ → Result ℕ Decline → List ℕ → Type 0
Written text out (Ok n) out' = Stands text out n out'
Written text out (Err d) out' = (d ≡ TooShort) × TooFew text out out'

-- the job's card is written; the planner holds the job, with its steps out of reach closed, at its length, time by time, with no pins
pub record JobAnswered (j : Job) (out : List ℕ) (r : Result ℕ Decline) (out' : List ℕ) (q : Planner) : Type 0 where
  pub card : ∥ ((text : List ℕ) × JobCard j text × Written text out r out') ∥₁
  pub filtered : Problem
  pub filters : Filters (problem_in j) filtered
  pub outcome : ℕ
  pub left : ledger q ≡ asked filtered (record { length = j.times; order = cells_upto (cell_in j) (j.times * step_count j); pins = no_pins; outcome = outcome })

-- the bytes are a sheet, and its job is answered; or they are declined, the fault line is written, and the planner is as it was
abbrev pub SheetAnswered : Planner → List ℕ → List ℕ → Result ℕ Decline → List ℕ → Planner → Type 0
SheetAnswered p bytes out r out' q =
    ((j : Job) × Reads bytes j × JobAnswered j out r out' q)
    ⊎ ((e : SheetFault) × Refused bytes e × Written (fault_line e) out r out' × (q ≡ p))
