-- A choice turned, dropped or added, as a search makes it. Assumes nothing.
use Rattle.std.proofs.Common.{◌≡◌, ℕ, ◌+◌, ◌<◌, ◌&&◌, ltb, List, [], ◌∷◌, ◌++◌, get_or, Some, sym, ap, ◌∙◌, subst, subst₂}
use Rattle.std.proofs.lemmas.List.{append_assoc}
use Rattle.sets.specs.Sets.{step_in, no_steps}
use Rattle.sets.specs.declared.steps.StepSet.{StepSet}
use Rattle.model.specs.declared.cell.Cell.{Cell}
use Rattle.model.specs.declared.path.Side.{Side}
use Rattle.model.specs.declared.path.Side.TheVariants.{LeftOut, Taken}
use Rattle.model.specs.declared.path.Entry.{Entry}
use Rattle.model.specs.Problems.{steps}
use Rattle.model.specs.Plans.{Cells}
use Rattle.model.specs.Held.{problem_of}
use Rattle.model.specs.Paths.{left, taken}
use Rattle.model.specs.Choices.{Choice, Fair, Walk}
use Rattle.model.specs.Firsts.{First, NoneAgrees}
use Rattle.model.proofs.Keeping.{kept_turn, kept_pop, kept_add, walk_step}
use Rattle.search.specs.declared.level.Level.{Level}
use Rattle.search.specs.declared.tables.Search.{Search}
use Rattle.marks.specs.declared.cells.CellSides.{CellSides}
use Rattle.search.specs.Levels.{cell_at, taken_by}
use Rattle.search.specs.Ordering.{places_in}
use Rattle.search.specs.Looks.{Ask, asked, cells, Wanted, path_of, KeptFor, Choosable, Fits, Undone, plan_of}
use Rattle.search.proofs.Searches.{kept_now}

-- the entry that a choice at a place adds
abbrev pub choice_at : Search → ℕ → Side → Entry
choice_at s k side = record { cell = cell_at s.order k; side = side }

module _ (s s' : Search) (l : Level) (same : asked s' ≡ asked s) (u : Undone s (Some l) s') where
  c : Cell
  c = cell_at s.order l.place

  is : (x : Side) → l.side ≡ x → path_of s ≡ path_of s' ++ (record { cell = cell_at s.order l.place; side = x } ∷ [])
  is x q = u.0 ∙ ap (λ (y : Side). path_of s' ++ (record { cell = cell_at s.order l.place; side = y } ∷ [])) q

  -- a choice that was left out, turned
  pub turn_fits : l.side ≡ LeftOut → NoneAgrees (Wanted (asked s)) (path_of s) → Fits s' l.place Taken
  turn_fits q n = record {
    inside = subst (λ (a : Ask). l.place < cells a) (sym same) u.1;
    calm = u.2;
    lower = u.3;
    kept = subst (λ (a : Ask). KeptFor a (path_of s' ++ (record { cell = cell_at a.order l.place; side = Taken } ∷ []))) (sym same)
        (kept_turn (Wanted (asked s)) s.length (steps (problem_of s.problem)) (asked s).pins (places_in s.order) (path_of s') (cell_at s.order l.place)
        (subst (KeptFor (asked s)) (is LeftOut q) (kept_now s)) (subst (NoneAgrees (Wanted (asked s))) (is LeftOut q) n));
  }

  pub turn_choice : (first last : Search) (behind : List Entry) → l.side ≡ LeftOut → path_of first ≡ path_of s ++ behind
      → path_of last ≡ path_of s' ++ (choice_at s' l.place Taken ∷ []) → Choice (path_of first) (path_of last)
  turn_choice first last behind q w t =
      let all : path_of first ≡ path_of s' ++ (left (cell_at s.order l.place) ∷ behind)
      = w ∙ ap (λ z. z ++ behind) (is LeftOut q) ∙ append_assoc (path_of s') (left (cell_at s.order l.place) ∷ []) behind in
      let end : path_of last ≡ path_of s' ++ (taken (cell_at s.order l.place) ∷ [])
      = t ∙ ap (λ (a : Ask). path_of s' ++ (taken (cell_at a.order l.place) ∷ [])) same in
      subst₂ Choice (sym all) (sym end) (Choice.turns (path_of s') (cell_at s.order l.place) behind)

  -- a choice that was taken, dropped
  pub drop_none : l.side ≡ Taken → NoneAgrees (Wanted (asked s)) (path_of s) → NoneAgrees (Wanted (asked s')) (path_of s')
  drop_none q n = subst (λ (a : Ask). NoneAgrees (Wanted a) (path_of s')) (sym same)
      (kept_pop (Wanted (asked s)) s.length (steps (problem_of s.problem)) (asked s).pins (places_in s.order) (path_of s') (cell_at s.order l.place)
      (subst (KeptFor (asked s)) (is Taken q) (kept_now s)) (subst (NoneAgrees (Wanted (asked s))) (is Taken q) n)).1

-- the lowest cell without a mark, added
pub add_fits : (s : Search) (k : ℕ) → Choosable s k → Fits s k LeftOut
add_fits s k h = record {
  inside = h.inside;
  calm = h.calm;
  lower = h.lower;
  kept = kept_add (Wanted (asked s)) s.length (steps (problem_of s.problem)) (asked s).pins (places_in s.order) (path_of s) (cell_at s.order k) (kept_now s) h.next;
}

pub add_choice : (s s' : Search) (k : ℕ) → path_of s' ≡ path_of s ++ (choice_at s k LeftOut ∷ []) → Choice (path_of s) (path_of s')
add_choice s s' k e = subst (Choice (path_of s)) (sym e) (Choice.adds (path_of s) (cell_at s.order k))

-- one choice more in a run
pub walk_on : (s₀ s s' : Search) (g : ℕ) → asked s ≡ asked s₀ → Walk s₀.length (steps (problem_of s₀.problem)) (asked s₀).pins g (path_of s₀) (path_of s)
    → Choice (path_of s) (path_of s') → Walk s₀.length (steps (problem_of s₀.problem)) (asked s₀).pins (g + 1) (path_of s₀) (path_of s')
walk_on s₀ s s' g same w ch = walk_step s₀.length (steps (problem_of s₀.problem)) (asked s₀).pins g (path_of s₀) (path_of s) (path_of s') w
    (subst (λ (a : Ask). Fair a.length (steps a.problem) a.pins (path_of s)) same (kept_now s).fair) ch

-- the plan that the marks spelled, kept apart, is the first
pub plan_found : (s₀ s s' s'' : Search) → asked s ≡ asked s₀ → asked s' ≡ asked s → asked s'' ≡ asked s' → s''.plan ≡ s'.marks.marked.cells
    → First (Wanted (asked s)) s.length (steps (problem_of s.problem)) (cell_at s.order) (taken_by s'.marks (problem_of s.problem) s.length)
    → First (Wanted (asked s₀)) s₀.length (steps (problem_of s₀.problem)) (cell_at s₀.order) (plan_of s'')
plan_found s₀ s s' s'' e f g k h =
    let P : Ask → Cells → Type 0 = λ a plan. First (Wanted a) a.length (steps a.problem) (cell_at a.order) plan in
    let tab : List StepSet → Ask → Cells = λ table a. λ t o. (ltb t a.length && ltb o (steps a.problem)) && step_in (get_or table t no_steps) o in
    subst (λ (a : Ask). P (asked s₀) (tab s''.plan.taken a)) (sym (g ∙ f ∙ e))
    (subst (λ (table : List StepSet). P (asked s₀) (tab table (asked s₀))) (sym (ap (λ (z : CellSides). z.taken) k))
    (subst (λ (a : Ask). P a (tab s'.marks.marked.cells.taken a)) e h))
