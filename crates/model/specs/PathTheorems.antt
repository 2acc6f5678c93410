-- The theorems of paths, of choices and of first plans. Assumes nothing.
use Rattle.std.specs.Prelude.{◌≡◌, ℕ, ◌+◌, ◌*◌, ◌^◌, ◌<◌, ◌≤◌, ◌⊎◌, List, [], ◌∷◌, ◌++◌, length}
use Rattle.model.specs.declared.cell.Cell.{Cell}
use Rattle.model.specs.declared.path.Entry.{Entry}
use Rattle.model.specs.Problems.{Problem, steps}
use Rattle.model.specs.Plans.{Cells, Pins}
use Rattle.model.specs.Rankings.{Order, Ranked, Undo}
use Rattle.model.specs.Paths.{Agrees, passed, left, taken}
use Rattle.model.specs.Choices.{Fair, Walk}
use Rattle.model.specs.Firsts.{Places, places, Ordered, Such, Before, Same, First, None, NoneLeft, NoneAgrees, Lowest}

-- a path within its rules has at most as many entries as there are cells
abbrev pub Few : Type 0
Few = (T m : ℕ) (pins : Pins) (path : List Entry) → Fair T m pins path → length path ≤ T * m

-- to add an entry on the left-out side passes exactly one place
abbrev pub AddingPassesOne : Type 0
AddingPassesOne = (C : ℕ) (path : List Entry) (c : Cell) → passed C (path ++ (left c ∷ [])) ≡ passed C path + 1

-- to turn an entry to taken, and drop the entries behind it, passes at least one place
abbrev pub TurningPasses : Type 0
TurningPasses =
    (C : ℕ) (before : List Entry) (c : Cell) (behind : List Entry)
    → length (before ++ (left c ∷ behind)) ≤ C
    → passed C (before ++ (left c ∷ behind)) < passed C (before ++ (taken c ∷ []))

-- g choices pass at least g places
abbrev pub WalksPass : Type 0
WalksPass = (T m : ℕ) (pins : Pins) (g : ℕ) (p q : List Entry) → Walk T m pins g p q → passed (T * m) p + g ≤ passed (T * m) q

-- walks, one after another, are one walk: so the choices of several runs add up
abbrev pub WalksJoin : Type 0
WalksJoin = (T m : ℕ) (pins : Pins) (g h : ℕ) (p q r : List Entry)
    → Walk T m pins g p q → Walk T m pins h q r → Walk T m pins (g + h) p r

-- a path within its rules has passed at most 2 ^ (C + 1) - 2 places, with C cells
abbrev pub PassedBounded : Type 0
PassedBounded = (T m : ℕ) (pins : Pins) (path : List Entry) → Fair T m pins path → passed (T * m) path + 2 ≤ 2 ^ (T * m + 1)

-- so a search ends: the choices still to come are bounded by the places not yet passed
abbrev pub WalksEnd : Type 0
WalksEnd = (T m : ℕ) (pins : Pins) (g : ℕ) (p q : List Entry)
    → Fair T m pins q → Walk T m pins g p q → passed (T * m) p + g + 2 ≤ 2 ^ (T * m + 1)

-- adding an entry on the left-out side leaves no plan left of the path
abbrev pub AddingKeeps : (Cells → Type 0) → Type 0
AddingKeeps S = (path : List Entry) (c : Cell) → NoneLeft S path → NoneLeft S (path ++ (left c ∷ []))

-- dropping a last entry that is taken, when no plan agrees with the path: no plan lies left of the rest, and none agrees with it
abbrev pub PoppingKeeps : (Cells → Type 0) → Type 0
PoppingKeeps S =
    (path : List Entry) (c : Cell) → NoneLeft S (path ++ (taken c ∷ [])) → NoneAgrees S (path ++ (taken c ∷ []))
    → NoneLeft S path × NoneAgrees S path

-- turning a last entry from left out to taken, when no plan agrees with the path, leaves no plan left of it
abbrev pub TurningKeeps : (Cells → Type 0) → Type 0
TurningKeeps S =
    (path : List Entry) (c : Cell) → NoneLeft S (path ++ (left c ∷ [])) → NoneAgrees S (path ++ (left c ∷ []))
    → NoneLeft S (path ++ (taken c ∷ []))

-- where no plan agrees with the empty path there is none
abbrev pub ExhaustedNone : (Cells → Type 0) → Type 0
ExhaustedNone S = NoneAgrees S [] → None S

-- backtracking loses no plan that keeps the pins
abbrev pub Backtracking : Type 0
Backtracking = (p : Problem) (T : ℕ) (pins : Pins)
    → AddingKeeps (Such p T pins) × PoppingKeeps (Such p T pins) × TurningKeeps (Such p T pins) × ExhaustedNone (Such p T pins)

-- the one plan that agrees with a path of lowest-placed undecided cells, none lying left of it, is the first
abbrev pub EndsFirst : Type 0
EndsFirst =
    (p : Problem) (T : ℕ) (pins : Pins) (o : Places) → Ordered T (steps p) o
    → (path : List Entry) (plan : Cells) → Fair T (steps p) pins path
    → NoneLeft (Such p T pins) path → Such p T pins plan → Agrees plan path
    → ((q : Cells) → Such p T pins q → Agrees q path → Same T (steps p) plan q)
    → Lowest (Such p T pins) T (steps p) o path
    → First (Such p T pins) T (steps p) o.cell plan

-- there is one first plan: two of them are the same on all cells
abbrev pub FirstUnique : Type 0
FirstUnique =
    (p : Problem) (T : ℕ) (pins : Pins) (o : Places) (a b : Cells)
    → First (Such p T pins) T (steps p) o.cell a → First (Such p T pins) T (steps p) o.cell b → Same T (steps p) a b

-- of two plans, either they are the same on all cells or one comes before the other; and never two of these at once
abbrev pub OneBefore : Type 0
OneBefore =
    (T m : ℕ) (o : Places) → Ordered T m o → (a b : Cells)
    → (Same T m a b ⊎ (Before (T * m) o.cell a b ⊎ Before (T * m) o.cell b a))
    × (Same T m a b → Before (T * m) o.cell a b → ⊥)
    × (Same T m a b → Before (T * m) o.cell b a → ⊥)
    × (Before (T * m) o.cell a b → Before (T * m) o.cell b a → ⊥)

-- a lawful ranking orders the cells at every length and count within the limits
abbrev pub RankedOrdered : Type 0
RankedOrdered = (o : Order) → Undo o → (T m : ℕ) → Ranked T m → Ordered T m (places o T m)
