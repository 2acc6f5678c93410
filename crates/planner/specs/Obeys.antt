-- What each call of a planner does: it writes into the ledger, keeps its promise, and changes nothing where it is declined. Assumes nothing.
use Rattle.std.specs.Prelude.{◌≡◌, ◌*◌, ◌<◌, List, [], take, Ok, Err, Result}
use Rattle.model.specs.declared.answers.Decline.{Decline}
use Rattle.model.specs.declared.path.Entry.{Entry}
use Rattle.model.specs.Problems.{steps}
use Rattle.model.specs.Held.{problem_of}
use Rattle.model.specs.Answers.{outcome_number, decline_number}
use Rattle.marks.specs.Pinning.{pins_of}
use Rattle.search.specs.declared.tables.Search.{Search}
use Rattle.search.specs.Looks.{path_of}
use Rattle.planner.specs.declared.tables.Stage.{Stage}
use Rattle.planner.specs.declared.tables.Stage.TheVariants as stage
use Rattle.planner.specs.declared.tables.Planner.{Planner}
use Rattle.planner.specs.Ledger.{Ledger, Ledger.blank, Ledger.opened, Ledger.asked, Event, Reply, Reply.declined, Reply.answered, write, number}
use Rattle.planner.specs.Promises.{Promise}

-- what a call's result says, as an answer: a refusal by its number
abbrev pub reply : {X Y : Type 0} → (X → Y) → Result X Decline → Reply Y
reply f (Ok x) = answered (f x)
reply f (Err e) = declined (decline_number e)

-- the ledger that a planner's tables hold
abbrev pub ledger_at : Stage → Search → Ledger
ledger_at stage.New s = blank
ledger_at stage.Opened s = opened (problem_of s.problem)
ledger_at (stage.Asked o) s = asked (problem_of s.problem) (record {
  length = s.length;
  order = take (s.length * steps (problem_of s.problem)) s.order;
  pins = pins_of s.pins;
  outcome = outcome_number o;
})

abbrev pub ledger : Planner → Ledger
ledger p = ledger_at p.stage p.search

-- the path that a planner shows
abbrev pub path : Planner → List Entry
path p = path_of p.search

-- the call led from the planner p to the planner q: the ledger was written into as the rules of ledgers say; the promise of the call is
-- kept, read from the ledger before it; and a call that was declined changed nothing at all
pub record Obeys (p : Planner) (e : Event) (q : Planner) : Type 0 where
  pub written : ledger q ≡ write (ledger p) e
  pub promised : Promise (ledger p) (path p) e (path q)
  pub unchanged : 0 < number e → q ≡ p

-- nothing was called yet: the ledger is empty, and so is the path
pub record Fresh (p : Planner) : Type 0 where
  pub empty : ledger p ≡ blank
  pub unmoved : path p ≡ []
