use Rattle.std.proofs.Common.{◌≡◌, true, false, ap, ◌∙◌, arith}
use Rattle.sets.specs.Literals.{lit, code}
use Rattle.sets.specs.Sets.{lit_in}
use Rattle.clauses.specs.Waiting.{kept_in}
use Rattle.clauses.proofs.Laws.{walk_lit, walk_end}
use Rattle.clauses.proofs.Strikes.{at_code}
use Rattle.clauses.proofs.Theory.{stays_out}
use Rattle.clauses.proofs.Waits.{struck_more, struck_by}
use Rattle.clauses.proofs.record.ClauseRecord.strike_all.Goals as goal

pub loop-b-preserved : goal.loop-b-preserved
loop-b-preserved c =
    let inv = c.loop-b.invariant in
    let e = c.in-Some.ensures in
    let s = c.loop-b.self in
    let t = c.strike.new.self in
    let a = c.args.a.number in
    let b = c.in-Some.b in
    let gone = c.args.gone in
    let k = c.strike.ensures in (
      struck_more _ s t _ inv.0 (struck_by s t _ (λ k x. (code k ≡ a) × (lit_in gone x ≡ true)) (λ k x h. (h.0, ap (lit_in gone) (at_code x b h.1) ∙ e.2)) k.struck),
      walk_lit (λ x. kept_in t (lit a) x ≡ false) gone c.loop-b.from b
          (λ x l m. stays_out (kept_in s) (kept_in t) _ k.struck.cut (lit a) x (inv.1 x l m)) e.3 k.done,
      omega (arith, e.1),
    )

pub returns-clause-done : goal.returns-clause-done
returns-clause-done c x m = c.loop-b.invariant.1 x (walk_end c.args.gone c.loop-b.from c.in_default.ensures x m) m
