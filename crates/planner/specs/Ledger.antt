-- What is kept of a planner's calls: calls with their answers, the ledger, and when a call is declined. Assumes nothing.
use Rattle.std.specs.Prelude.{ℕ, zero, suc, ◌*◌, Bool, true, false, cond, not, ◌&&◌, ◌||◌, List, [], ◌∷◌, ◌++◌, Option, ◌==◌, nat_le, nat_lt}
use Rattle.model.specs.declared.cell.Cell.{Cell}
use Rattle.model.specs.declared.path.Entry.{Entry}
use Rattle.model.specs.Problems.{Problem, steps, empty_problem}
use Rattle.model.specs.Plans.{Pin, Pins, take, leave, unpinned}
use Rattle.model.specs.Rankings.{Order}

-- what a call answers: a value, or the number that it is declined with
pub data Reply (X : Type 0) : Type 0 where
  declined : ℕ → Reply X
  answered : X → Reply X

-- a call of the planner, with its arguments and its answer: a source stands for the problem that it means, a ranking for the order
-- that it means; report has the caller's bytes before and after it
pub data Event : Type 0 where
  open_call : (p : Problem) → Event
  ask_call : (T : ℕ) (order : Order) (r : Reply (Unit {0})) → Event
  pin_call : (t o : ℕ) (taken : Bool) (r : Reply (Unit {0})) → Event
  unpin_call : (t o : ℕ) (r : Reply (Unit {0})) → Event
  run_call : (g : ℕ) (r : Reply ℕ) → Event
  forced_call : (t o : ℕ) (r : Reply ℕ) → Event
  path_call : (k : ℕ) (r : Reply (Option Entry)) → Event
  report_call : (before : List ℕ) (r : Reply ℕ) (after : List ℕ) → Event

-- what was asked: a length, the cells in the ranking's order, the pins, and the outcome: 0 not yet, 1 plan, 2 none
pub record Asked : Type 0 where
  pub length : ℕ
  pub order : List Cell
  pub pins : Pins
  pub outcome : ℕ

-- the ledger: empty; a problem, with nothing asked; or a problem and what was asked of it
pub data Ledger : Type 0 where
  blank : Ledger
  opened : Problem → Ledger
  asked : Problem → Asked → Ledger

abbrev pub no_pins : Pins
no_pins = λ t o. unpinned

abbrev pub nothing_asked : Asked
nothing_asked = record { length = 0; order = []; pins = no_pins; outcome = 0 }

abbrev pub problem : Ledger → Problem
problem blank = empty_problem
problem (opened p) = p
problem (asked p a) = p

abbrev pub ask : Ledger → Asked
ask blank = nothing_asked
ask (opened p) = nothing_asked
ask (asked p a) = a

abbrev pub unopened : Ledger → Bool
unopened blank = true
unopened (opened p) = false
unopened (asked p a) = false

abbrev pub unasked : Ledger → Bool
unasked blank = true
unasked (opened p) = true
unasked (asked p a) = false

-- the time is not below the length, or the step not below the count
abbrev pub out_of_range : Ledger → ℕ → ℕ → Bool
out_of_range L t o = nat_le (ask L).length t || nat_le (steps (problem L)) o

abbrev pub is_pinned : Pin → Bool
is_pinned unpinned = false
is_pinned take = true
is_pinned leave = true

abbrev pub pinned : Ledger → ℕ → ℕ → Bool
pinned L t o = is_pinned ((ask L).pins t o)

-- no choices, or over a million
abbrev pub bad_grant : ℕ → Bool
bad_grant g = g == 0 || nat_lt 1000000 g

-- of rows in rising order, the smallest number that fits, and 0 where none does
abbrev pub first_fitting : List (Bool × ℕ) → ℕ
first_fitting [] = 0
first_fitting ((fits, n) ∷ rows) = cond fits n (first_fitting rows)

-- the number that a call is declined with, by the ledger and its arguments; 0 where it is carried out. (A report for which the
-- caller's bytes are too few is declined with 28 besides.)
abbrev pub declines : Ledger → Event → ℕ
declines L (open_call p) = 0
declines L (ask_call T order r) = first_fitting ((unopened L, 21) ∷ (nat_lt 32 T, 23) ∷ [])
declines L (pin_call t o taken r) = first_fitting ((unopened L, 21) ∷ (unasked L, 22) ∷ (out_of_range L t o, 24) ∷ (pinned L t o, 25) ∷ [])
declines L (unpin_call t o r) = first_fitting ((unopened L, 21) ∷ (unasked L, 22) ∷ (out_of_range L t o, 24) ∷ (not (pinned L t o), 26) ∷ [])
declines L (run_call g r) = first_fitting ((unopened L, 21) ∷ (unasked L, 22) ∷ (bad_grant g, 27) ∷ [])
declines L (forced_call t o r) = first_fitting ((unopened L, 21) ∷ (unasked L, 22) ∷ (out_of_range L t o, 24) ∷ [])
declines L (path_call k r) = first_fitting ((unopened L, 21) ∷ (unasked L, 22) ∷ [])
declines L (report_call before r after) = first_fitting ((unopened L, 21) ∷ (unasked L, 22) ∷ [])

-- the first n cells of an order
abbrev pub cells_upto : (ℕ → Cell) → ℕ → List Cell
cells_upto cell zero = []
cells_upto cell (suc n) = cells_upto cell n ++ (cell n ∷ [])

-- one cell's pin is this, the others are as they were
abbrev pub with_pin : Pins → ℕ → ℕ → Pin → Pins
with_pin pins t o pin = λ u k. cond (t == u && o == k) pin (pins u k)

abbrev pub pin_for : Bool → Pin
pin_for true = take
pin_for false = leave

-- the ledger with one cell's pin so, and the outcome not yet
abbrev pub repin : Ledger → ℕ → ℕ → Pin → Ledger
repin L t o pin = asked (problem L) (record { length = (ask L).length; order = (ask L).order; pins = with_pin (ask L).pins t o pin; outcome = 0 })

-- the outcome that a run's answer leaves
abbrev pub outcome_after : Asked → Reply ℕ → ℕ
outcome_after a (declined n) = a.outcome
outcome_after a (answered n) = n

-- what a call that is carried out writes: open the problem, striking the rest; ask the length and the order, no pins and the outcome not yet;
-- pin and unpin one cell's pin and the outcome not yet; run its answer; the others nothing
abbrev pub enter : Ledger → Event → Ledger
enter L (open_call p) = opened p
enter L (ask_call T order r) = asked (problem L) (record { length = T; order = cells_upto (order.cell T (steps (problem L))) (T * steps (problem L)); pins = no_pins; outcome = 0 })
enter L (pin_call t o taken r) = repin L t o (pin_for taken)
enter L (unpin_call t o r) = repin L t o unpinned
enter L (run_call g r) = asked (problem L) (record { length = (ask L).length; order = (ask L).order; pins = (ask L).pins; outcome = outcome_after (ask L) r })
enter L (forced_call t o r) = L
enter L (path_call k r) = L
enter L (report_call before r after) = L

-- the ledger after a call: a call that it declines writes nothing
abbrev pub write : Ledger → Event → Ledger
write L e = cond (declines L e == 0) (enter L e) L

-- what a call was declined with, 0 where it was not
abbrev pub number_in : {X : Type 0} → Reply X → ℕ
number_in (declined n) = n
number_in (answered x) = 0

abbrev pub number : Event → ℕ
number (open_call p) = 0
number (ask_call T order r) = number_in r
number (pin_call t o taken r) = number_in r
number (unpin_call t o r) = number_in r
number (run_call g r) = number_in r
number (forced_call t o r) = number_in r
number (path_call k r) = number_in r
number (report_call before r after) = number_in r
