use Rattle.std.proofs.Common.{◌&&◌, ltb, cond, ap, ◌∙◌}
use Rattle.model.specs.declared.path.Side.TheVariants.{LeftOut, Taken}
use Rattle.model.specs.Plans.{Pin}
use Rattle.marks.specs.Cells.{side_in, same_side}
use Rattle.marks.specs.Pinning.{pins_of, same_cell}
use Rattle.marks.proofs.Pinning.{told_by, apart_by, one_side, pin_told}
use Rattle.marks.proofs.pins.Pins.set.Goals as goal

pub invariant_of-self : goal.invariant_of-self
invariant_of-self c = let k = c.args.self.now.cells in let s = c.args.side in record {
  apart = λ t o. apart_by (ltb c.args.cell.time 32 && same_cell c.args.cell t o) (same_side s Taken) (same_side s LeftOut) (side_in k Taken t o) (side_in k LeftOut t o) _ _
      (c.set.ensures Taken t o) (c.set.ensures LeftOut t o) (one_side s) (c.args.self.now.apart t o);
}

pub returns : goal.returns
returns c t o = let k = c.args.self.now.cells in let s = c.args.side in let b = ltb c.args.cell.time 32 && same_cell c.args.cell t o in
    told_by b (same_side s Taken) (same_side s LeftOut) (side_in k Taken t o) (side_in k LeftOut t o) _ _ (c.set.ensures Taken t o) (c.set.ensures LeftOut t o)
    ∙ ap (λ (p : Pin). cond b p (pins_of c.args.self.now t o)) (pin_told s)
