-- What an outcome means of the search. Assumes nothing.
use Rattle.std.specs.Prelude.{◌≡◌, []}
use Rattle.model.specs.declared.answers.Outcome.{Outcome}
use Rattle.model.specs.declared.answers.Outcome.TheVariants.{NotYet, Plan, NoPlan}
use Rattle.model.specs.Problems.{steps}
use Rattle.model.specs.Held.{problem_of}
use Rattle.model.specs.Plans.{Cells}
use Rattle.model.specs.Firsts.{First, None}
use Rattle.search.specs.declared.tables.Search.{Search}
use Rattle.search.specs.Levels.{cell_at}
use Rattle.search.specs.Looks.{asked, Wanted, plan_of, path_of}
use Rattle.planner.specs.declared.tables.Stage.{Stage}
use Rattle.planner.specs.declared.tables.Stage.TheVariants as stage

-- the plan is the first of those that are wanted, in the order that was asked
abbrev pub FirstOf : Search → Cells → Type 0
FirstOf s plan = First (Wanted (asked s)) s.length (steps (problem_of s.problem)) (cell_at s.order) plan

-- a plan: the search holds the first one; none: there is none; and the path is empty then
abbrev pub EndsWith : Search → Outcome → Type 0
EndsWith s NotYet = Unit {0}
EndsWith s Plan = FirstOf s (plan_of s) × (path_of s ≡ [])
EndsWith s NoPlan = None (Wanted (asked s)) × (path_of s ≡ [])

-- after an ask, the search is as the outcome says
abbrev pub Ends : Search → Stage → Type 0
Ends s stage.New = Unit {0}
Ends s stage.Opened = Unit {0}
Ends s (stage.Asked o) = EndsWith s o
