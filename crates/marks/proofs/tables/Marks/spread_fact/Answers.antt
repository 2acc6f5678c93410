use Rattle.sets.specs.Sets.{no_literals}
use Rattle.std.proofs.Common.{ℕ, get_or, refl, subst}
use Rattle.marks.specs.declared.mark.Mark.TheVariants.{Fact, LeftOut}
use Rattle.marks.specs.Tables.{opp_lit}
use Rattle.marks.specs.Grows.{Added}
use Rattle.marks.specs.Rules.{On, Holds}
use Rattle.marks.proofs.Growth.{grows_trans, has_grows}
use Rattle.marks.proofs.Closure.{worked_trans, follows_map}
use Rattle.marks.proofs.Spread.{clause_worked}
use Rattle.marks.proofs.tables.Marks.spread_fact.Goals as goal

pub spread_back-requires-clause-there : goal.spread_back-requires-clause-there
spread_back-requires-clause-there c = c.spread_from.ensures.worked.grows.keeps (Fact c.args.t c.args.l.number) c.requires.there

pub returns : goal.returns
returns c =
    let ix = c.args.ix.now in let t = c.args.t in let l = c.args.l.number in
    let a = c.args.self.now in let b1 = c.spread_from.new.self in let b2 = c.spread_back.new.self in
    let w1 = c.spread_from.ensures in let w2 = c.spread_back.ensures in
    let d : Added b2 (Holds (get_or ix.clauses (opp_lit l) no_literals) t) c.hold_all.new.self
    = subst (λ (k : ℕ). Added b2 (Holds (get_or ix.clauses k no_literals) t) c.hold_all.new.self) c.opposite.ensures c.hold_all.ensures in
    let k1 = w1.worked.grows.keeps (Fact t l) c.requires.there in let k2 = w2.worked.grows.keeps (Fact t l) k1 in
    let g = grows_trans w2.worked.grows d.grows in
    record {
      worked = worked_trans w1.worked (worked_trans w2.worked (clause_worked ix t l k2 d));
      covers = record {
        need_false = λ r o n. has_grows g (LeftOut t o) (w1.leaves r o n);
        make_false = λ u e o n. has_grows d.grows (LeftOut u o) (w2.leaves u e o n);
        clause = λ i n. d.there (Fact t i) (i, n, refl);
        from_here = λ r y q. has_grows g y (w1.follows r y q);
        to_here = λ u e y q. has_grows d.grows y (w2.follows u e y (follows_map ix (On a) (On b1) u l w1.worked.grows.keeps y q));
      };
    }
