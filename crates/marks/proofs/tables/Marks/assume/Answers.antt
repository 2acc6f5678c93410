use Rattle.marks.proofs.Growth.{grows_trans}
use Rattle.marks.proofs.Undone.{settled_added, good_more, seeded_more}
use Rattle.marks.proofs.tables.Marks.assume.Goals as goal

pub returns : goal.returns
returns c =
    let ix = c.args.ix.now in let a = c.args.self.now in let b = c.add.new.self in let x = c.args.x in
    let d = c.add.ensures in let p = c.propagate.ensures in
    record {
      grows = grows_trans d.grows p.worked.grows;
      rest = λ seed more one e. p.rest more (settled_added ix a b d e.settled) (good_more ix a b x d seed more one e.exact) (seeded_more ix a b x d seed more one e.exact);
    }
