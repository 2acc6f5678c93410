-- Calls as values: the event that a call and its answer are, and lists of them. Assumes nothing.
use Rattle.std.specs.Prelude.{◌≡◌, ℕ, Bool, true, false, List, [], ◌∷◌, take, drop, Ok, Err, Option, Result}
use Rattle.model.specs.declared.answers.Decline.{Decline}
use Rattle.model.specs.declared.path.Entry.{Entry}
use Rattle.model.specs.Problems.{Problem}
use Rattle.model.specs.Rankings.{Order}
use Rattle.model.specs.Answers.{outcome_number, forced_number, decline_number}
use Rattle.planner.specs.declared.tables.Planner.{Planner}
use Rattle.planner.specs.declared.call.Call.{Call}
use Rattle.planner.specs.declared.call.Call.TheVariants as call
use Rattle.planner.specs.declared.call.Answer.{Answer}
use Rattle.planner.specs.declared.call.Answer.TheVariants as answer
use Rattle.planner.specs.Ledger.{Event, Reply, Reply.declined, Reply.answered, Event.open_call, Event.ask_call, Event.pin_call, Event.unpin_call, Event.run_call, Event.forced_call, Event.path_call, Event.report_call}
use Rattle.planner.specs.Obeys.{Fresh}
use Rattle.planner.specs.Histories.{History, Lawful}

-- what a result says to each kind of call; an answer of another kind says nothing that a call may say
abbrev pub as_done : Result Answer Decline → Reply (Unit {0})
as_done (Err d) = declined (decline_number d)
as_done (Ok answer.Done) = answered tt
as_done (Ok (answer.Ran o)) = declined 0
as_done (Ok (answer.Forced f)) = declined 0
as_done (Ok (answer.Entry x)) = declined 0
as_done (Ok (answer.Wrote n)) = declined 0

abbrev pub as_ran : Result Answer Decline → Reply ℕ
as_ran (Err d) = declined (decline_number d)
as_ran (Ok answer.Done) = declined 0
as_ran (Ok (answer.Ran o)) = answered (outcome_number o)
as_ran (Ok (answer.Forced f)) = declined 0
as_ran (Ok (answer.Entry x)) = declined 0
as_ran (Ok (answer.Wrote n)) = declined 0

abbrev pub as_forced : Result Answer Decline → Reply ℕ
as_forced (Err d) = declined (decline_number d)
as_forced (Ok answer.Done) = declined 0
as_forced (Ok (answer.Ran o)) = declined 0
as_forced (Ok (answer.Forced f)) = answered (forced_number f)
as_forced (Ok (answer.Entry x)) = declined 0
as_forced (Ok (answer.Wrote n)) = declined 0

abbrev pub as_entry : Result Answer Decline → Reply (Option Entry)
as_entry (Err d) = declined (decline_number d)
as_entry (Ok answer.Done) = declined 0
as_entry (Ok (answer.Ran o)) = declined 0
as_entry (Ok (answer.Forced f)) = declined 0
as_entry (Ok (answer.Entry x)) = answered x
as_entry (Ok (answer.Wrote n)) = declined 0

abbrev pub as_wrote : Result Answer Decline → Reply ℕ
as_wrote (Err d) = declined (decline_number d)
as_wrote (Ok answer.Done) = declined 0
as_wrote (Ok (answer.Ran o)) = declined 0
as_wrote (Ok (answer.Forced f)) = declined 0
as_wrote (Ok (answer.Entry x)) = declined 0
as_wrote (Ok (answer.Wrote n)) = answered n

-- whether the call writes into the caller's bytes
abbrev pub writes : Call → Bool
writes call.Open = false
writes (call.Ask T) = false
writes (call.Pin t o taken) = false
writes (call.Unpin t o) = false
writes (call.Run g) = false
writes (call.Forced t o) = false
writes (call.Path k) = false
writes call.Report = true

module _ (p : Problem) (order : Order) where
  -- the call with its answer, and the caller's bytes before and after it; the source means the problem p, the ranking the order
  abbrev pub event_of : Call → Result Answer Decline → List ℕ → List ℕ → Event
  event_of call.Open a out out' = open_call p
  event_of (call.Ask T) a out out' = ask_call T order (as_done a)
  event_of (call.Pin t o taken) a out out' = pin_call t o taken (as_done a)
  event_of (call.Unpin t o) a out out' = unpin_call t o (as_done a)
  event_of (call.Run g) a out out' = run_call g (as_ran a)
  event_of (call.Forced t o) a out out' = forced_call t o (as_forced a)
  event_of (call.Path k) a out out' = path_call k (as_entry a)
  event_of call.Report a out out' = report_call out (as_wrote a) out'

  -- the calls with their answers are these events, from the caller's bytes before the first to those after the last
  abbrev pub Recorded : List Call → List (Result Answer Decline) → List ℕ → List Event → List ℕ → Type 0
  Recorded [] [] out [] out' = out' ≡ out
  Recorded [] [] out (e ∷ es) out' = ⊥
  Recorded [] (a ∷ rest) out es out' = ⊥
  Recorded (c ∷ cs) [] out es out' = ⊥
  Recorded (c ∷ cs) (a ∷ rest) out [] out' = ⊥
  Recorded (c ∷ cs) (a ∷ rest) out (e ∷ es) out' = (mid : List ℕ) × (e ≡ event_of c a out mid) × Recorded cs rest mid es out'

  -- the calls led from one planner to the other, as a history of events that records them with their answers; from a new planner on it is lawful
  pub record CarriedOut (before : Planner) (calls : List Call) (answers : List (Result Answer Decline)) (out : List ℕ) (after : Planner) (out' : List ℕ) : Type 0 where
    pub events : List Event
    pub recorded : Recorded calls answers out events out'
    pub history : History before events after
    pub lawful : Fresh before → Lawful events after

  -- the first n calls are carried out, and the places for later answers are as they were
  pub record CarriedSofar (before : Planner) (calls : List Call) (blank answers : List (Result Answer Decline)) (n : ℕ) (out : List ℕ) (after : Planner) (out' : List ℕ) : Type 0 where
    pub events : List Event
    pub recorded : Recorded (take n calls) (take n answers) out events out'
    pub history : History before events after
    pub beyond : drop n answers ≡ drop n blank
