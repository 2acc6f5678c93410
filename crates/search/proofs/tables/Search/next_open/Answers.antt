use Rattle.std.proofs.Common.{◌≡◌, ℕ, ◌<◌, ◌≤◌, true, List, Some, None, Option, rules, MatchOption}
use Rattle.std.proofs.lemmas.Iterator.{first_from_Range}
use Rattle.model.specs.declared.cell.Cell.{Cell}
use Rattle.marks.specs.declared.tables.Marks.{Marks}
use Rattle.marks.specs.Deciding.{Undecided}
use Rattle.search.specs.Levels.{cell_at, told}
use Rattle.search.specs.Looks.{Opens}
use Rattle.search.proofs.tables.Search.next_open.Goals as goal

opens : (m : Marks) (order : List Cell) (C from : ℕ) (r : Option ℕ)
    → MatchOption r ((k : ℕ) → from ≤ k → k < C → told m (cell_at order k) ≡ true)
    (λ k. (from ≤ k) × (k < C) × Undecided m (cell_at order k) × ((j : ℕ) → from ≤ j → j < k → told m (cell_at order j) ≡ true)) → Opens m order C from r
opens m order C from None h = h
opens m order C from (Some k) h = h

pub returns : goal.returns
returns c =
    let s = c.args.self.now in
    rw (← c.cell_count-count.ensures.value) (opens s.marks s.order _ _ c.find.result
    (first_from_Range _ _ _ _ (λ k. Undecided s.marks (cell_at s.order k)) (λ k. told s.marks (cell_at s.order k) ≡ true) c.find.ensures.ran
    (λ x q r. search rules) (λ x q r. search rules)))
