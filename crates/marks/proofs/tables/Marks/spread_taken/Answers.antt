use Rattle.std.proofs.Common.{◌+◌, refl}
use Rattle.marks.specs.declared.mark.Mark.TheVariants.{Fact, Taken, LeftOut}
use Rattle.marks.proofs.Growth.{has_grows}
use Rattle.marks.proofs.Closure.{worked_trans}
use Rattle.marks.proofs.Spread.{needs_worked, makes_worked, rivals_worked}
use Rattle.marks.proofs.tables.Marks.spread_taken.Goals as goal

pub returns : goal.returns
returns c =
    let ix = c.args.ix.now in let t = c.args.t in let o = c.args.o in
    let d1 = c.hold_all.ensures in let d2 = c.hold_all-2.ensures in let d3 = c.leave_all.ensures in
    let k1 = d1.grows.keeps (Taken t o) c.requires.there in let k2 = d2.grows.keeps (Taken t o) k1 in
    record {
      worked = worked_trans (needs_worked ix t o c.requires.there d1) (worked_trans (makes_worked ix t o k1 d2) (rivals_worked ix t o k2 d3));
      covers = record {
        needs = λ l n. has_grows d3.grows (Fact t l) (has_grows d2.grows (Fact t l) (d1.there (Fact t l) (l, n, refl)));
        makes = λ l n. has_grows d3.grows (Fact (t + 1) l) (d2.there (Fact (t + 1) l) (l, n, refl));
        rivals = λ i n. d3.there (LeftOut t i) (i, n, refl);
      };
    }
