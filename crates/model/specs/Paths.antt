-- Paths of choices: agreement, what lies left of a path, and the places that a path has passed. Assumes nothing.
use Rattle.std.specs.Prelude.{◌≡◌, ℕ, suc, ◌+◌, ◌-◌, ◌^◌, Bool, true, false, List, [], ◌∷◌, ◌++◌}
use Rattle.model.specs.declared.cell.Cell.{Cell}
use Rattle.model.specs.declared.path.Side.{Side}
use Rattle.model.specs.declared.path.Side.TheVariants.{LeftOut, Taken}
use Rattle.model.specs.declared.path.Entry.{Entry}
use Rattle.model.specs.Plans.{Cells}

-- what a plan does with a cell
abbrev pub at : Cells → Cell → Bool
at plan c = plan c.time c.step

-- whether the side is taken
abbrev pub takes : Side → Bool
takes LeftOut = false
takes Taken = true

-- the entry that leaves a cell out, and the one that takes it
abbrev pub left : Cell → Entry
left c = record { cell = c; side = LeftOut }

abbrev pub taken : Cell → Entry
taken c = record { cell = c; side = Taken }

-- the plan does with an entry's cell what the entry says
abbrev pub Follows : Cells → Entry → Type 0
Follows plan e = at plan e.cell ≡ takes e.side

-- the plan agrees with the path: it follows every entry
abbrev pub Agrees : Cells → List Entry → Type 0
Agrees plan [] = Unit {0}
Agrees plan (e ∷ path) = Follows plan e × Agrees plan path

-- the plan lies left of the path: for some taken entry, it agrees with all earlier entries and leaves out that one's cell
abbrev pub LeftOf : Cells → List Entry → Type 0
LeftOf plan path =
    (before : List Entry) × (c : Cell) × (behind : List Entry)
    × (path ≡ before ++ (taken c ∷ behind)) × Agrees plan before × (at plan c ≡ false)

-- what one entry, the i-th from 1, adds to the places passed, with C cells in all: one for itself and, where it takes, one for
-- each of the 2 ^ (C - i + 1) - 1 paths that leave its cell out in its place
abbrev pub worth : ℕ → ℕ → Side → ℕ
worth C i LeftOut = 1
worth C i Taken = 2 ^ ((C - i) + 1)

-- over the entries of a path whose first is the i-th
abbrev pub passed_from : ℕ → ℕ → List Entry → ℕ
passed_from C i [] = 0
passed_from C i (e ∷ path) = worth C i e.side + passed_from C (suc i) path

-- the places that a path has passed, with C cells in all
abbrev pub passed : ℕ → List Entry → ℕ
passed C path = passed_from C 1 path
