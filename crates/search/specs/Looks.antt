-- What is asked of a search, and what it sees. Assumes nothing.
use Rattle.std.specs.Prelude.{◌≡◌, ℕ, ◌*◌, ◌<◌, ◌≤◌, Bool, true, false, ◌&&◌, List, [], ◌∷◌, ◌++◌, Some, None as Nothing, Option, nat_lt, slice_index_or}
use Rattle.sets.specs.Sets.{step_in, no_steps}
use Rattle.model.specs.declared.cell.Cell.{Cell}
use Rattle.model.specs.declared.path.Entry.{Entry}
use Rattle.model.specs.declared.path.Side.{Side}
use Rattle.model.specs.declared.path.Side.TheVariants.{LeftOut}
use Rattle.model.specs.declared.answers.Outcome.{Outcome}
use Rattle.model.specs.declared.answers.Outcome.TheVariants.{NotYet, Plan, NoPlan}
use Rattle.model.specs.Problems.{Problem, steps}
use Rattle.model.specs.Plans.{Cells, Pins}
use Rattle.model.specs.Held.{problem_of}
use Rattle.model.specs.Choices.{Choice, Walk}
use Rattle.model.specs.Firsts.{Such, First, None, NoneAgrees}
use Rattle.model.specs.Kept.{Kept, Next, Only}
use Rattle.marks.specs.declared.tables.Marks.{Marks}
use Rattle.marks.specs.Deciding.{Undecided}
use Rattle.marks.specs.Pinning.{pins_of}
use Rattle.search.specs.declared.tables.Search.{Search}
use Rattle.search.specs.declared.level.Level.{Level}
use Rattle.search.specs.declared.look.Look.{Look}
use Rattle.search.specs.declared.look.Look.TheVariants as look
use Rattle.search.specs.Levels.{cell_at, entry_of, path_at, told, Lower, taken_by}
use Rattle.search.specs.Ordering.{places_in}

-- what is asked: a problem, a length, an order of the cells, and pins
pub record Ask : Type 0 where
  pub problem : Problem
  pub length : ℕ
  pub order : List Cell
  pub pins : Pins

abbrev pub asked : Search → Ask
asked s = record { problem = problem_of s.problem; length = s.length; order = s.order; pins = pins_of s.pins }

-- the plans that are looked for
abbrev pub Wanted : Ask → Cells → Type 0
Wanted a = Such a.problem a.length a.pins

-- how many cells there are
abbrev pub cells : Ask → ℕ
cells a = a.length * steps a.problem

abbrev pub path_of : Search → List Entry
path_of s = path_at s.order s.path.levels s.path.depth

-- what stands past the end of a path
abbrev pub no_entry : Entry
no_entry = record { cell = record { time = 0; step = 0 }; side = LeftOut }

-- the plan that was found last
abbrev pub plan_of : Search → Cells
plan_of s = λ t o. (nat_lt t s.length && nat_lt o (steps (problem_of s.problem))) && step_in (slice_index_or s.plan.taken t no_steps) o

abbrev pub KeptFor : Ask → List Entry → Type 0
KeptFor a path = Kept (Wanted a) a.length (steps a.problem) a.pins (places_in a.order) path

-- what there is to choose next at a place of the order: it is the lowest cell without a mark
pub record Choosable (s : Search) (k : ℕ) : Type 0 where
  pub inside : k < cells (asked s)
  pub calm : s.marks.conflict ≡ false
  pub lower : Lower s.marks s.order k
  pub next : Next (Wanted (asked s)) s.length (steps (problem_of s.problem)) (pins_of s.pins) (places_in s.order) (path_of s) (cell_at s.order k)

-- what the marks show: no wanted plan agrees with the path, or just one does, or this cell is to be chosen next
abbrev pub Seen : Search → Look → Type 0
Seen s look.Contradiction = NoneAgrees (Wanted (asked s)) (path_of s)
Seen s look.Whole = Only (Wanted (asked s)) s.length (steps (problem_of s.problem)) (path_of s) (taken_by s.marks (problem_of s.problem) s.length)
Seen s (look.Undecided k) = Choosable s k

-- the first place at or above `from` whose cell has no mark
abbrev pub Opens : Marks → List Cell → ℕ → ℕ → Option ℕ → Type 0
Opens m order C from Nothing = (k : ℕ) → from ≤ k → k < C → told m (cell_at order k) ≡ true
Opens m order C from (Some k) = (from ≤ k) × (k < C) × Undecided m (cell_at order k) × ((j : ℕ) → from ≤ j → j < k → told m (cell_at order j) ≡ true)

-- the choice fits the path: it may be added to it
pub record Fits (s : Search) (k : ℕ) (side : Side) : Type 0 where
  pub inside : k < cells (asked s)
  pub calm : s.marks.conflict ≡ false
  pub lower : Lower s.marks s.order k
  pub kept : KeptFor (asked s) (path_of s ++ (record { cell = cell_at s.order k; side = side } ∷ []))

-- the newest choice was taken back, if there was one; the marks are as before it
abbrev pub Undone : Search → Option Level → Search → Type 0
Undone s Nothing s' = (path_of s ≡ []) × (path_of s' ≡ [])
Undone s (Some l) s' = (path_of s ≡ path_of s' ++ (entry_of s.order l ∷ []))
    × (l.place < cells (asked s)) × (s'.marks.conflict ≡ false) × Lower s'.marks s'.order l.place

-- one choice more was made by turning, or there is no wanted plan
abbrev pub Turned : Search → Bool → Search → Type 0
Turned s true s' = Choice (path_of s) (path_of s')
Turned s false s' = None (Wanted (asked s)) × (path_of s' ≡ [])

-- one more choice, or an ending
abbrev pub Advanced : Search → Outcome → Search → Type 0
Advanced s NotYet s' = Choice (path_of s) (path_of s')
Advanced s Plan s' = First (Wanted (asked s)) s.length (steps (problem_of s.problem)) (cell_at s.order) (taken_by s'.marks (problem_of s.problem) s.length)
Advanced s NoPlan s' = None (Wanted (asked s)) × (path_of s' ≡ [])

-- a run: so many choices over fair paths, or an ending, after which the path is empty
abbrev pub Ran : Search → ℕ → Outcome → Search → Type 0
Ran s g NotYet s' = Walk s.length (steps (problem_of s.problem)) (pins_of s.pins) g (path_of s) (path_of s')
Ran s g Plan s' = First (Wanted (asked s)) s.length (steps (problem_of s.problem)) (cell_at s.order) (plan_of s') × (path_of s' ≡ [])
Ran s g NoPlan s' = None (Wanted (asked s)) × (path_of s' ≡ [])
