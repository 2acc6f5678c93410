-- What a call promises, read from the ledger before it and the paths before and after it. Assumes nothing.
use Rattle.std.specs.Prelude.{◌≡◌, ℕ, ◌+◌, ◌*◌, ◌<◌, ◌≤◌, ◌⊎◌, List, [], length as size, get_or, Option, MatchOption, slice_index_or}
use Rattle.model.specs.declared.path.Entry.{Entry}
use Rattle.model.specs.Problems.{steps}
use Rattle.model.specs.Plans.{Cells}
use Rattle.model.specs.Singly.{Unbroken}
use Rattle.model.specs.Rankings.{cell_of}
use Rattle.model.specs.Paths.{passed}
use Rattle.model.specs.Choices.{Fair}
use Rattle.model.specs.Firsts.{Such, First, None, NoneLeft}
use Rattle.model.specs.Forcing.{ForcedSays}
use Rattle.text.specs.Cards.{card_of, none_card, not_yet_card}
use Rattle.text.specs.Written.{Stands}
use Rattle.search.specs.Looks.{no_entry}
use Rattle.planner.specs.Ledger.{Ledger, Event, Reply, Reply.declined, Reply.answered, problem, ask, declines, Event.open_call, Event.ask_call, Event.pin_call, Event.unpin_call, Event.run_call, Event.forced_call, Event.path_call, Event.report_call}

-- a plan of the ledger's problem and length that keeps its pins
abbrev pub SuchPlan : Ledger → Cells → Type 0
SuchPlan L = Such (problem L) (ask L).length (ask L).pins

-- how many cells there are
abbrev pub cells : Ledger → ℕ
cells L = (ask L).length * steps (problem L)

-- such a plan that the asked ranking puts before every other
abbrev pub FirstPlan : Ledger → Cells → Type 0
FirstPlan L c = First (SuchPlan L) (ask L).length (steps (problem L)) (λ k. get_or (ask L).order k (cell_of 0 0)) c

-- a run of g choices that answers n. 0, not yet: the path keeps its rules, has passed at least g more places than before, and no such
-- plan lies left of it. 1, plan: there is such a plan. 2, none: there is none. After an ending the path is empty, and a run answers the same again.
pub record RunSays (L : Ledger) (g : ℕ) (before : List Entry) (n : ℕ) (after : List Entry) : Type 0 where
  pub small : n ≤ 2
  pub fair : n ≡ 0 → Fair (ask L).length (steps (problem L)) (ask L).pins after
  pub passes : n ≡ 0 → passed (cells L) before + g ≤ passed (cells L) after
  pub none_left : n ≡ 0 → NoneLeft (SuchPlan L) after
  pub plan : n ≡ 1 → ∥ ((c : Cells) × SuchPlan L c) ∥₁
  pub none : n ≡ 2 → None (SuchPlan L)
  pub ends : 0 < n → after ≡ []
  pub again : 0 < (ask L).outcome → n ≡ (ask L).outcome

-- the job card of the ledger's outcome: `not yet`, or the card of the first such plan, which no order of one time's steps breaks, or `none`
pub record CardOf (L : Ledger) (text : List ℕ) : Type 0 where
  pub not_yet : (ask L).outcome ≡ 0 → text ≡ not_yet_card
  pub plan : (ask L).outcome ≡ 1 → (c : Cells) × FirstPlan L c × Unbroken (problem L) c × (text ≡ card_of c (steps (problem L)) (ask L).length)
  pub none : (ask L).outcome ≡ 2 → text ≡ none_card

-- n is the number that the table and the ledger give, and then nothing has happened; or they give none, and this holds of the answer
abbrev pub Answers : {X : Type 0} → ℕ → Reply X → Type 0 → (X → Type 0) → Type 0
Answers n (declined k) same holds = (k ≡ n) × (0 < n) × same
Answers n (answered x) same holds = (n ≡ 0) × holds x

-- a report is declined by the ledger, or with 28 where its card has more bytes than the caller's, and the bytes stand as before; or
-- the card is written whole, the answer is how many bytes it has, and the bytes beyond stand as before
abbrev pub Reports : Ledger → ℕ → List ℕ → Reply ℕ → List ℕ → Type 0
Reports L n before (declined k) after = (after ≡ before)
    × (((k ≡ n) × (0 < n)) ⊎ ((n ≡ 0) × (k ≡ 28) × ∥ ((text : List ℕ) × CardOf L text × (size before < size text)) ∥₁))
Reports L n before (answered count) after = (n ≡ 0) × ∥ ((text : List ℕ) × CardOf L text × Stands text before count after) ∥₁

-- the entry of the path at a place from 0, or that there is none
abbrev pub EntryAt : List Entry → ℕ → Option Entry → Type 0
EntryAt path k x = MatchOption x (size path ≤ k) (λ e. (k < size path) × (e ≡ slice_index_or path k no_entry))

-- what each call promises
abbrev pub Promise : Ledger → List Entry → Event → List Entry → Type 0
Promise L before (open_call p) after = after ≡ []
Promise L before (ask_call T order r) after = Answers (declines L (ask_call T order r)) r (after ≡ before) (λ _. after ≡ [])
Promise L before (pin_call t o taken r) after = Answers (declines L (pin_call t o taken r)) r (after ≡ before) (λ _. after ≡ [])
Promise L before (unpin_call t o r) after = Answers (declines L (unpin_call t o r)) r (after ≡ before) (λ _. after ≡ [])
Promise L before (run_call g r) after = Answers (declines L (run_call g r)) r (after ≡ before) (λ n. RunSays L g before n after)
Promise L before (forced_call t o r) after = (after ≡ before)
    × Answers (declines L (forced_call t o r)) r (Unit {0}) (λ n. ForcedSays (problem L) (ask L).length (ask L).pins t o n)
Promise L before (path_call k r) after = (after ≡ before) × Answers (declines L (path_call k r)) r (Unit {0}) (λ x. EntryAt before k x)
Promise L before (report_call out r out') after = (after ≡ before) × Reports L (declines L (report_call out r out')) out r out'
