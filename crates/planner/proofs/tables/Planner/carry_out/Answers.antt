use Rattle.std.proofs.Common.{◌≡◌, ℕ, ◌<◌, List, length, take, subst, arith}
use Rattle.std.proofs.lemmas.List.{length-take-le, take-take}
use Rattle.planner.specs.declared.call.Call.{Call}
use Rattle.planner.specs.Carried.{CarriedOut, CarriedSofar}
use Rattle.planner.proofs.Carrying.{sofar_none, sofar_more, sofar_all}
use Rattle.planner.proofs.tables.Planner.carry_out.Goals as goal

pub loop-i-init : goal.loop-i-init
loop-i-init g c = sofar_none (g.S.ProblemSource.meaning c.args.source.now) (g.R.Ranking.order c.args.ranking.now) c.args.self.now _ c.args.answers.now c.args.out.now

pub loop-i-preserved : goal.loop-i-preserved
loop-i-preserved g c =
    let calls = take c.min-count.result c.args.calls.now in
    let short : length calls ≡ c.min-count.result = length-take-le c.min-count.result c.args.calls.now (omega (arith, c.min-count.ensures)) in
    let k : c.loop-i.i < length c.loop-i.answers = omega (arith, c.min-count.ensures, c.loop-i.auto.answers, c.loop-i-test.true, short) in
    sofar_more (g.S.ProblemSource.meaning c.args.source.now) (g.R.Ranking.order c.args.ranking.now) c.args.self.now c.loop-i.self c.carry.new.self calls c.args.answers.now c.loop-i.answers c.loop-i.i
    c.args.out.now c.loop-i.out c.carry.new.out _ c.carry.result c.loop-i-test.true k c.carry.ensures.obeys c.loop-i.invariant

pub returns : goal.returns
returns g c =
    let w = g.S.ProblemSource.meaning c.args.source.now in
    let order = g.R.Ranking.order c.args.ranking.now in
    let n = c.min-count.result in
    let calls = take n c.args.calls.now in
    let short : length calls ≡ n = length-take-le n c.args.calls.now (omega (arith, c.min-count.ensures)) in
    let e : c.loop-i.i ≡ n = omega (arith, c.loop-i.auto.i-end, c.loop-i-test.false, short) in
    let s = subst (λ (k : ℕ). CarriedSofar w order c.args.self.now calls c.args.answers.now c.loop-i.answers k c.args.out.now c.loop-i.self c.loop-i.out) e c.loop-i.invariant in
    record {
      count = c.min-count.ensures;
      carried = subst (λ (z : List Call). CarriedOut w order c.args.self.now z (take n c.loop-i.answers) c.args.out.now c.loop-i.self c.loop-i.out) (take-take n n c.args.calls.now (omega arith))
          (sofar_all w order c.args.self.now c.loop-i.self calls c.args.answers.now c.loop-i.answers n c.args.out.now c.loop-i.out s);
      beyond = s.beyond;
    }
