use Rattle.sets.specs.Sets.{no_steps}
use Rattle.std.proofs.Common.{◌⊎◌, get_or, inl, inr}
use Rattle.marks.specs.Rules.{LeavesOut}
use Rattle.marks.specs.Rules.{Takes}
use Rattle.marks.proofs.Growth.{added_then}
use Rattle.marks.proofs.tables.Marks.pin.Goals as goal

pub returns : goal.returns
returns c =
    let ix = c.args.ix.now in let pins = c.args.pins.now in let t = c.args.t in
    added_then c.leave_all.ensures
    (added_then {Q = λ y. LeavesOut (get_or pins.cells.left t no_steps) t y ⊎ Takes (get_or pins.cells.taken t no_steps) t y} c.leave_all-2.ensures c.take_all.ensures (λ y q. q) (λ y s. inl s) (λ y r. inr r))
    (λ y q. q) (λ y s. inl s) (λ y r. inr r)
