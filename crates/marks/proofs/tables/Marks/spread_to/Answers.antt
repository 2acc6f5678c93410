use Rattle.sets.specs.Sets.{no_steps}
use Rattle.std.proofs.Common.{ℕ, get_or, refl, subst, arith}
use Rattle.marks.specs.declared.mark.Mark.TheVariants.{LeftOut}
use Rattle.marks.specs.Tables.{opp_lit}
use Rattle.marks.specs.Grows.{Added}
use Rattle.marks.specs.Rules.{On, LeavesOut}
use Rattle.marks.proofs.Growth.{has_grows}
use Rattle.marks.proofs.Closure.{worked_trans, check_worked, check_follows, follows_map}
use Rattle.marks.proofs.Spread.{make_false_worked}
use Rattle.marks.proofs.tables.Marks.spread_to.Goals as goal

pub returns : goal.returns
returns c =
    let ix = c.args.ix.now in let t = c.args.t in let l = c.args.l.number in let a = c.args.self.now in let b = c.leave_all.new.self in
    let d1 : Added a (LeavesOut (get_or ix.makers (opp_lit l) no_steps) t) b = subst (λ (k : ℕ). Added a (LeavesOut (get_or ix.makers k no_steps) t) b) c.opposite.ensures c.leave_all.ensures in
    let d2 = c.check.ensures in
    record {
      worked = worked_trans (make_false_worked ix t l c.requires.time c.requires.there d1)
          (check_worked ix b c.check.new.self t l d2 (omega (arith, c.requires.time, d1.grows.same_length)));
      leaves = λ o n. has_grows d2.grows (LeftOut t o) (d1.there (LeftOut t o) (o, n, refl));
      follows = λ y q. check_follows ix b c.check.new.self t l d2 y (follows_map ix (On a) (On b) t l d1.grows.keeps y q);
    }
