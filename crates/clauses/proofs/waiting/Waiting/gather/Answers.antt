use Rattle.std.proofs.Common.{refl, ⊎_elim}
use Rattle.std.proofs.lemmas.Bool.{or_parts, eqb-false}
use Rattle.clauses.proofs.Waits.{caught_more, insert_has, insert_keeps, none_held}
use Rattle.clauses.proofs.waiting.Waiting.gather.Goals as goal

pub loop-a-preserved : goal.loop-a-preserved
loop-a-preserved c =
    let inv = c.loop-a.invariant in
    let e = c.in-Some.ensures in
    let s = c.loop-a.self in
    let a = c.in-Some.a in
    let b = c.in-Some.b in
    let first = c.insert.result in
    let more = c.insert-touched.result in (
      λ q. inv.0 (or_parts _ _ q).0,
      λ x y h q. caught_more s _ a b c.loop-a.touched.needs more e.top.0
          (λ l m. insert_keeps first more _ c.insert-touched.ensures.members l (insert_keeps _ first _ c.insert.ensures.members l m))
          (λ l. insert_keeps first more _ c.insert-touched.ensures.members _
          (insert_has _ first _ a c.insert.ensures.members (c.flip.ensures.within l) c.flip.ensures.value))
          (λ l. insert_has first more _ b c.insert-touched.ensures.members (c.flip-in-Some.ensures.within l) c.flip-in-Some.ensures.value)
          (eqb-false a b (or_parts _ _ q).1) x y (inv.1 x y h (or_parts _ _ q).0),
    )

pub returns : goal.returns
returns c =
    let inv = c.loop-a.invariant in
    let e = c.in_default.ensures in
    record {
      none = (e.top.1, refl);
      all = inv.0;
      caught = λ x y h q. ⊎_elim (λ k. absurd (none_held c.loop-a.self e.top.0 x y k)) (λ k. k) (inv.1 x y h q);
    }
