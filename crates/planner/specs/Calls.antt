-- When a call is declined, and what each call does. Assumes nothing.
use Rattle.std.specs.Prelude.{◌≡◌, ℕ, ◌+◌, ◌*◌, ◌≤◌, Bool, true, false, cond, ◌||◌, List, [], Some, None as Nothing, Ok, Err, Option, Result, ◌==◌, nat_le, nat_lt}
use Rattle.model.specs.declared.answers.Outcome.{Outcome}
use Rattle.model.specs.declared.answers.Outcome.TheVariants.{NotYet, Plan, NoPlan}
use Rattle.model.specs.declared.answers.Decline.{Decline}
use Rattle.model.specs.declared.answers.Decline.TheVariants.{Unopened, Unasked, TooLong, OutOfRange, Pinned, Unpinned, Grant, TooShort}
use Rattle.model.specs.Problems.{steps}
use Rattle.model.specs.Plans.{Cells, Pin}
use Rattle.model.specs.Held.{problem_of}
use Rattle.model.specs.Paths.{passed}
use Rattle.model.specs.Choices.{Fair}
use Rattle.model.specs.Firsts.{None, NoneLeft}
use Rattle.marks.specs.Pinning.{pins_of}
use Rattle.text.specs.Cards.{card_of, none_card, not_yet_card}
use Rattle.text.specs.Written.{Fitted}
use Rattle.search.specs.Looks.{asked, Wanted, path_of}
use Rattle.planner.specs.declared.tables.Stage.{Stage}
use Rattle.planner.specs.declared.tables.Stage.TheVariants.{New, Opened, Asked}
use Rattle.planner.specs.declared.tables.Planner.{Planner}
use Rattle.planner.specs.Endings.{FirstOf}
use Rattle.planner.specs.Ledger.{is_pinned}

-- what a call was declined with, if it was
abbrev pub declined : {X : Type 0} → Result X Decline → Option Decline
declined (Ok x) = Nothing
declined (Err e) = Some e

abbrev pub unopened : Stage → Bool
unopened New = true
unopened Opened = false
unopened (Asked o) = false

abbrev pub unasked : Stage → Bool
unasked New = true
unasked Opened = true
unasked (Asked o) = false

-- how the last run ended; not yet, before an ask
abbrev pub outcome : Stage → Outcome
outcome New = NotYet
outcome Opened = NotYet
outcome (Asked o) = o

-- the smallest fitting number: nothing opened, then nothing asked, then what the call itself adds
abbrev pub unless_asked : Planner → Option Decline → Option Decline
unless_asked p more = cond (unopened p.stage) (Some Unopened) (cond (unasked p.stage) (Some Unasked) more)

abbrev pub ask_declines : Planner → ℕ → Option Decline
ask_declines p T = cond (unopened p.stage) (Some Unopened) (cond (nat_lt 32 T) (Some TooLong) Nothing)

abbrev pub unless_out : Planner → ℕ → ℕ → Option Decline → Option Decline
unless_out p t o more = cond (nat_le p.search.length t || nat_le (steps (problem_of p.search.problem)) o) (Some OutOfRange) more

abbrev pub pin_declines : Planner → ℕ → ℕ → Option Decline
pin_declines p t o = unless_asked p (unless_out p t o (cond (is_pinned (pins_of p.search.pins t o)) (Some Pinned) Nothing))

abbrev pub unpin_declines : Planner → ℕ → ℕ → Option Decline
unpin_declines p t o = unless_asked p (unless_out p t o (cond (is_pinned (pins_of p.search.pins t o)) Nothing (Some Unpinned)))

abbrev pub run_declines : Planner → ℕ → Option Decline
run_declines p g = unless_asked p (cond (g == 0 || nat_lt 1000000 g) (Some Grant) Nothing)

abbrev pub look_declines : Planner → Option Decline
look_declines p = unless_asked p Nothing

-- a search of what was asked begins: nothing is known of it yet
pub record Began (q : Planner) : Type 0 where
  pub stage : q.stage ≡ Asked NotYet
  pub fresh : path_of q.search ≡ []

-- one cell's pin is this now; all else that is asked is as before
pub record Pins (p : Planner) (t o : ℕ) (pin : Pin) (q : Planner) : Type 0 where
  pub problem : q.search.problem ≡ p.search.problem
  pub length : q.search.length ≡ p.search.length
  pub order : q.search.order ≡ p.search.order
  pub here : pins_of q.search.pins t o ≡ pin
  pub elsewhere : (u k : ℕ) → ((u ≡ t) × (k ≡ o) → ⊥) → pins_of q.search.pins u k ≡ pins_of p.search.pins u k

-- a run that says so: there is a wanted plan; there is none; or the path keeps its rules, has passed at least as many places more
-- as choices were granted, and no wanted plan lies left of it
abbrev pub RunSays : Planner → ℕ → Outcome → Planner → Type 0
RunSays p g NotYet q =
    Fair p.search.length (steps (problem_of p.search.problem)) (pins_of p.search.pins) (path_of q.search)
    × (passed (p.search.length * steps (problem_of p.search.problem)) (path_of p.search) + g
    ≤ passed (p.search.length * steps (problem_of p.search.problem)) (path_of q.search))
    × NoneLeft (Wanted (asked p.search)) (path_of q.search)
RunSays p g Plan q = ∥ ((c : Cells) × Wanted (asked p.search) c) ∥₁ × (path_of q.search ≡ [])
RunSays p g NoPlan q = None (Wanted (asked p.search)) × (path_of q.search ≡ [])

-- the card that an outcome is reported by: that of the first wanted plan, or `none`, or `not yet`
abbrev pub CardOf : Planner → Outcome → List ℕ → Type 0
CardOf p NotYet text = text ≡ not_yet_card
CardOf p Plan text = (c : Cells) × FirstOf p.search c × (text ≡ card_of c (steps (problem_of p.search.problem)) p.search.length)
CardOf p NoPlan text = text ≡ none_card

-- the card of the outcome is written whole, or there are too few bytes for it and they stand as before
abbrev pub Writes : Planner → List ℕ → Option ℕ → List ℕ → Type 0
Writes p out r out' = ∥ ((text : List ℕ) × CardOf p (outcome p.stage) text × Fitted text out r out') ∥₁

-- a report: declined before an ask, with the bytes as they were; else the card of the outcome, or declined for want of bytes
abbrev pub Reports : Planner → List ℕ → Result ℕ Decline → List ℕ → Type 0
Reports p out (Ok n) out' = (look_declines p ≡ Nothing) × Writes p out (Some n) out'
Reports p out (Err TooShort) out' = (look_declines p ≡ Nothing) × Writes p out Nothing out'
Reports p out (Err Unopened) out' = (look_declines p ≡ Some Unopened) × (out' ≡ out)
Reports p out (Err Unasked) out' = (look_declines p ≡ Some Unasked) × (out' ≡ out)
Reports p out (Err TooLong) out' = ⊥
Reports p out (Err OutOfRange) out' = ⊥
Reports p out (Err Pinned) out' = ⊥
Reports p out (Err Unpinned) out' = ⊥
Reports p out (Err Grant) out' = ⊥
