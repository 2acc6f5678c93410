use Rattle.std.proofs.Common.{◌≡◌, true, false, ap, ◌∙◌, arith}
use Rattle.sets.specs.Literals.{Literal}
use Rattle.sets.specs.Sets.{lit_in}
use Rattle.clauses.specs.Waiting.{kept_in}
use Rattle.clauses.proofs.Laws.{walk_lit, walk_end}
use Rattle.clauses.proofs.Strikes.{at_code}
use Rattle.clauses.proofs.Theory.{stays_out}
use Rattle.clauses.proofs.Waits.{struck_more, struck_by}
use Rattle.clauses.proofs.record.ClauseRecord.strike_rows.Goals as goal

pub loop-a-preserved : goal.loop-a-preserved
loop-a-preserved c =
    let inv = c.loop-a.invariant in
    let e = c.in-Some.ensures in
    let s = c.loop-a.self in
    let t = c.strike_row.new.self in
    let a = c.in-Some.a in
    let undone = c.args.undone in
    let safe = c.args.safe in
    let k = c.strike_row.ensures in (
      struck_more _ s t _ inv.0
          (struck_by s t _ (λ k x. (lit_in undone k ≡ true) × (lit_in safe x ≡ false)) (λ k x h. (ap (lit_in undone) (at_code k a h.0) ∙ e.2, h.1)) k.struck),
      walk_lit (λ k. (x : Literal) → lit_in safe x ≡ false → kept_in t k x ≡ false) undone c.loop-a.from a
          (λ y l m x h. stays_out (kept_in s) (kept_in t) _ k.struck.cut y x (inv.1 y l m x h)) e.3 k.done,
      omega (arith, e.1),
    )

pub returns-clause-done : goal.returns-clause-done
returns-clause-done c k m = c.loop-a.invariant.1 k (walk_end c.args.undone c.loop-a.from c.in_default.ensures k m) m
