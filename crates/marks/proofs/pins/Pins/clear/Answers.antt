use Rattle.std.proofs.Common.{◌&&◌, ltb, false}
use Rattle.model.specs.declared.path.Side.TheVariants.{LeftOut, Taken}
use Rattle.std.proofs.lemmas.Bool.{both_ways}
use Rattle.std.proofs.Common.{refl}
use Rattle.marks.specs.Cells.{side_in}
use Rattle.marks.specs.Pinning.{same_cell}
use Rattle.marks.proofs.Pinning.{told_by, apart_by}
use Rattle.marks.proofs.pins.Pins.clear.Goals as goal

pub invariant_of-self : goal.invariant_of-self
invariant_of-self c = let k = c.args.self.now.cells in record {
  apart = λ t o. apart_by (ltb c.args.cell.time 32 && same_cell c.args.cell t o) false false (side_in k Taken t o) (side_in k LeftOut t o) _ _
      (c.clear.ensures Taken t o) (c.clear.ensures LeftOut t o) (λ h g. both_ways false refl h) (c.args.self.now.apart t o);
}

pub returns : goal.returns
returns c t o = let k = c.args.self.now.cells in
    told_by (ltb c.args.cell.time 32 && same_cell c.args.cell t o) false false (side_in k Taken t o) (side_in k LeftOut t o) _ _ (c.clear.ensures Taken t o) (c.clear.ensures LeftOut t o)
