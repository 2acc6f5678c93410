-- Histories of calls, from a new planner on, and the law that holds over every one of them. Assumes nothing.
use Rattle.std.specs.Prelude.{◌≡◌, List, [], ◌∷◌}
use Rattle.model.specs.declared.path.Entry.{Entry}
use Rattle.planner.specs.declared.tables.Planner.{Planner}
use Rattle.planner.specs.Ledger.{Ledger, Ledger.blank, Event, write}
use Rattle.planner.specs.Promises.{Promise}
use Rattle.planner.specs.Obeys.{Obeys, Fresh, ledger, path}

-- these calls, one after another, led from one planner to the other
pub data History : Planner → List Event → Planner → Type 0 where
  none : (p : Planner) → History p [] p
  more : (p q r : Planner) (e : Event) (es : List Event) → Obeys p e q → History q es r → History p (e ∷ es) r

-- the ledger after calls: each is written in, in their order
abbrev pub ledger_after : Ledger → List Event → Ledger
ledger_after L [] = L
ledger_after L (e ∷ es) = ledger_after (write L e) es

-- from a ledger and a path on, every one of these calls keeps its promise, read from the ledger and the path that the calls before it
-- left; the last path is this one
abbrev pub EachKept : Ledger → List Entry → List Event → List Entry → Type 0
EachKept L before [] last = last ≡ before
EachKept L before (e ∷ es) last = (after : List Entry) × Promise L before e after × EachKept (write L e) after es last

-- whatever calls a planner goes through from new on, declined ones included: its ledger is what their arguments and the answers of runs
-- write, and every call kept its promise, read from the ledger of the calls before it
pub record Lawful (es : List Event) (q : Planner) : Type 0 where
  pub written : ledger q ≡ ledger_after blank es
  pub promised : EachKept blank [] es (path q)

abbrev pub EveryHistory : Type 0
EveryHistory = (p q : Planner) (es : List Event) → Fresh p → History p es q → Lawful es q
