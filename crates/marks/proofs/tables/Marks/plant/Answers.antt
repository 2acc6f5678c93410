use Rattle.std.proofs.Common.{ℕ, ◌⊎◌, ◌∙◌, subst, inl, inr, ⊎_elim}
use Rattle.marks.specs.Grows.{Added}
use Rattle.marks.specs.Rules.{Holds}
use Rattle.marks.proofs.Growth.{added_then}
use Rattle.marks.proofs.Seeds.{seeds_split, from_start, from_goal, from_cells, Cells}
use Rattle.marks.proofs.tables.Marks.plant.Goals as goal

pub returns : goal.returns
returns c =
    let ix = c.args.ix.now in let pins = c.args.pins.now in let a = c.args.self.now in let T = a.length in
    let d1 = c.hold_all.ensures in let d2 = c.hold_all-2.ensures in
    let b = c.hold_all-2.new.self in let e = c.pin_all.new.self in
    let d3 : Added b (Cells ix pins T) e = subst (λ (n : ℕ). Added b (Cells ix pins n) e) (d2.grows.same_length ∙ d1.grows.same_length) c.pin_all.ensures in
    added_then d1
    (added_then {Q = λ y. Holds ix.goal T y ⊎ Cells ix pins T y} d2 d3 (λ y q. q) (λ y s. inl s) (λ y r. inr r))
    (seeds_split ix pins T)
    (from_start ix pins T)
    (λ y q. ⊎_elim (from_goal ix pins T y) (from_cells ix pins T y) q)
