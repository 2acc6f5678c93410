use Rattle.sets.specs.Sets.{no_steps}
use Rattle.std.proofs.Common.{ℕ, get_or, refl, subst, arith}
use Rattle.marks.specs.declared.mark.Mark.TheVariants.{LeftOut}
use Rattle.marks.specs.Tables.{opp_lit}
use Rattle.marks.specs.Grows.{Added}
use Rattle.marks.specs.Rules.{On, LeavesOut, Concluded}
use Rattle.marks.proofs.Growth.{has_grows}
use Rattle.marks.proofs.Closure.{worked_trans, check_worked, check_follows, follows_map}
use Rattle.marks.proofs.Spread.{need_false_worked}
use Rattle.marks.proofs.tables.Marks.spread_from.Goals as goal

pub returns-then-t-self : goal.returns-then-t-self
returns-then-t-self c =
    let ix = c.args.ix.now in let t = c.args.t in let l = c.args.l.number in let a = c.args.self.now in let b = c.leave_all.new.self in
    let f = c.opposite-f.ensures in
    let d1 : Added a (LeavesOut (get_or ix.needers (opp_lit l) no_steps) t) b = subst (λ (k : ℕ). Added a (LeavesOut (get_or ix.needers k no_steps) t) b) f c.leave_all.ensures in
    let d2 : Added b (Concluded ix (On b) t (opp_lit l)) c.check.new.self = subst (λ (k : ℕ). Added b (Concluded ix (On b) t k) c.check.new.self) f c.check.ensures in
    record {
      worked = worked_trans (need_false_worked ix t l c.if-t-self.true c.requires.there d1)
          (check_worked ix b c.check.new.self t (opp_lit l) d2 (omega (arith, c.if-t-self.true, d1.grows.same_length)));
      leaves = λ r o n. has_grows d2.grows (LeftOut t o) (d1.there (LeftOut t o) (o, n, refl));
      follows = λ r y q. check_follows ix b c.check.new.self t (opp_lit l) d2 y (follows_map ix (On a) (On b) t (opp_lit l) d1.grows.keeps y q);
    }
