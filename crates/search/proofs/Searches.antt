-- What holds of every search. Assumes nothing.
use Rattle.std.proofs.Common.{◌≡◌, ℕ, suc, ◌+◌, ◌-◌, ◌<◌, ◌≤◌, true, false, List, [], ◌∷◌, ◌++◌, length, get_or, take, set, Some, None, refl, ap, ◌∙◌, ⊎_elim, mul-le-mul, arith, length-append}
use Rattle.std.proofs.lemmas.List.{length-take, length-take-le, length-map}
use Rattle.std.proofs.lemmas.Bool.{cases_lt}
use Rattle.model.specs.declared.cell.Cell.{Cell}
use Rattle.model.specs.declared.path.Entry.{Entry}
use Rattle.model.specs.declared.path.Side.{Side}
use Rattle.model.specs.declared.table.ProblemTable.{ProblemTable}
use Rattle.model.specs.Problems.{steps}
use Rattle.model.specs.Held.{problem_of}
use Rattle.model.specs.Choices.{Fair}
use Rattle.model.specs.Kept.{Only}
use Rattle.model.proofs.Crowding.{few}
use Rattle.marks.specs.declared.tables.Marks.{Marks}
use Rattle.marks.specs.Pinning.{pins_of}
use Rattle.marks.specs.Grows.{Retreated}
use Rattle.marks.specs.Deciding.{mark_of, Decided}
use Rattle.clauses.specs.Waiting.{kept_in}
use Rattle.search.specs.declared.level.Level.{Level}
use Rattle.search.specs.declared.path.Path.{Path}
use Rattle.search.specs.declared.tables.Search.{Search}
use Rattle.search.specs.Levels.{cell_at, no_level, entry_of, path_at, told, Lower, taken_by}
use Rattle.search.specs.Sound.{Sound}
use Rattle.search.specs.Looks.{asked, cells, Wanted, path_of, KeptFor, Opens, Choosable, Fits}
use Rattle.search.proofs.Sounding.{last_fair}
use Rattle.search.proofs.Stepping.{path_suc}
use Rattle.search.proofs.Shown.{shown_kept, shown_next, shown_whole, shown_long, shown_placed, shown_beyond, shown_trail, shown_lower, shown_undo, shown_choose}

-- what a search keeps true, of other marks and levels
abbrev SoundAt : Search → Marks → List Level → ℕ → Type 0
SoundAt s m ls n = ∥ Sound (problem_of s.problem) (kept_in s.clauses) s.index s.length s.order (pins_of s.pins) s.root m ls n ∥₁

pub few_rows : (t : ProblemTable) → steps (problem_of t) ≤ 256
few_rows t = omega (arith, length-take t.count t.steps, t.few_steps)

lower_more : (m : Marks) (order : List Cell) (from k : ℕ) → Lower m order from → ((j : ℕ) → from ≤ j → j < k → told m (cell_at order j) ≡ true) → Lower m order k
lower_more m order from k low more j h = ⊎_elim (λ l. low j l) (λ l. more j l h) (cases_lt j from)

module _ (s : Search) where
  pub room : cells (asked s) ≤ 8192
  room = mul-le-mul s.short (few_rows s.problem)

  pub kept_now : KeptFor (asked s) (path_of s)
  kept_now = shown_kept s.sound

  pub choosable_now : s.marks.conflict ≡ false → (from k : ℕ) → Lower s.marks s.order from → Opens s.marks s.order (cells (asked s)) from (Some k) → Choosable s k
  choosable_now calm from k low o =
      let all : Lower s.marks s.order k = lower_more s.marks s.order from k low o.3 in
      record {
        inside = o.1;
        calm = calm;
        lower = all;
        next = shown_next s.sound calm k o.1 o.2 all;
      }

  pub whole_now : s.marks.conflict ≡ false → (from : ℕ) → Lower s.marks s.order from → Opens s.marks s.order (cells (asked s)) from None
      → Only (Wanted (asked s)) s.length (steps (problem_of s.problem)) (path_of s) (taken_by s.marks (problem_of s.problem) s.length)
  whole_now calm from low o = shown_whole s.sound calm (lower_more s.marks s.order from (cells (asked s)) low o)

  pub path_size : length (path_of s) ≡ s.path.depth
  path_size = length-map (take s.path.depth s.path.levels) (entry_of s.order) ∙ length-take-le s.path.depth s.path.levels (omega (arith, s.path.deep, s.path.sized))

  -- a path that may have one more entry is not full
  pub depth_room : (e : Entry) → Fair s.length (steps (problem_of s.problem)) (pins_of s.pins) (path_of s ++ (e ∷ [])) → s.path.depth < length s.path.levels
  depth_room e f = omega (arith, few s.length (steps (problem_of s.problem)) (pins_of s.pins) (path_of s ++ (e ∷ [])) f, length-append (path_of s) (e ∷ []), path_size, room, s.path.sized)

  -- a choice that fits
  module _ (place : ℕ) (side : Side) (f : Fits s place side) where
    pub fits_room : s.path.depth < length s.path.levels
    fits_room = depth_room (record { cell = cell_at s.order place; side = side }) f.kept.fair

    pub fits_time : (cell_at s.order place).time < s.marks.length
    fits_time = rw (shown_long s.sound)
        (last_fair s.length (steps (problem_of s.problem)) (pins_of s.pins) (path_of s) (record { cell = cell_at s.order place; side = side }) f.kept.fair).0

    pub chosen : (m' : Marks) (ls' : List Level) (n' : ℕ) → ls' ≡ set s.path.levels s.path.depth (record { place = place; side = side; trail = s.marks.len }) → n' ≡ s.path.depth + 1
        → Decided s.index s.marks (mark_of side (cell_at s.order place)) m'
        → SoundAt s m' ls' n'
    chosen m' ls' n' e q d =
        rw (e, q)
        (shown_choose s.sound m' (record { place = place; side = side; trail = s.marks.len }) fits_room f.inside f.calm refl f.lower f.kept d)

  -- the newest choice
  module _ (l : Level) (some : 0 < s.path.depth) (top : l ≡ get_or s.path.levels (s.path.depth - 1) no_level) where
    deep : s.path.depth ≤ length s.path.levels
    deep = omega (arith, s.path.deep, s.path.sized)

    pub newest_trail : l.trail ≤ s.marks.len
    newest_trail = rw top (shown_trail s.sound some deep)

    pub newest_placed : l.place < cells (asked s)
    newest_placed = rw top (shown_placed s.sound (s.path.depth - 1) (omega (arith, some)))

    pub newest_beyond : s.marks.conflict ≡ false → Lower s.marks s.order (l.place + 1)
    newest_beyond calm = rw top (shown_beyond s.sound some deep calm)

    module _ (m' : Marks) (r : Retreated s.marks l.trail m') where
      back : Retreated s.marks (get_or s.path.levels (s.path.depth - 1) no_level).trail m'
      back = rw (← top) r

      pub newest_lower : Lower m' s.order l.place
      newest_lower = rw top (shown_lower s.sound some deep m' back)

      pub undone : (q : Path) → q.levels ≡ s.path.levels → q.depth ≡ s.path.depth - 1 → SoundAt s m' q.levels q.depth
      undone q e d = rw (e, d) (shown_undo s.sound some deep m' back)

    -- the path without it
    pub newest_path : (q : Path) → q.levels ≡ s.path.levels → q.depth ≡ s.path.depth - 1 → path_of s ≡ path_at s.order q.levels q.depth ++ (entry_of s.order l ∷ [])
    newest_path q e d =
        let one : s.path.depth ≡ suc (s.path.depth - 1) = omega (arith, some) in
        rw (e, d, top) (ap (path_at s.order s.path.levels) one ∙ path_suc s.order s.path.levels (s.path.depth - 1) (omega (arith, some, deep)))

  pub place_small : (i : ℕ) (l : Level) → i < s.path.depth → l ≡ get_or s.path.levels i no_level → l.place < 8192
  place_small i l h e = rw e (omega (arith, room, shown_placed s.sound i h))
