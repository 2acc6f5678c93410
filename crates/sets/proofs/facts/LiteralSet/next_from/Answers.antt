use Rattle.std.proofs.Common.{◌+◌, ◌*◌, ◌∙◌, arith}
use Rattle.std.proofs.lemmas.Option.{MatchOption-at_none, MatchOption-at_some}
use Rattle.sets.proofs.Literals.{none_between, truth_at, falsity_at}
use Rattle.sets.proofs.facts.LiteralSet.next_from.Goals as goal

pub returns-in-None-None : goal.returns-in-None-None
returns-in-None-None c a l =
    let no_truth = MatchOption-at_none _ _ c.in-None-None.is-0 c.next_from-truth.ensures in
    let no-falsity = MatchOption-at_none _ _ c.in-None-None.is-1 c.next_from-falsity.ensures in
    none_between c.args.self c.args.from (a + 1) (λ i m u. no_truth i m) (λ i m u. no-falsity i m) a l (omega arith)

pub returns-in-Some-None : goal.returns-in-Some-None
returns-in-Some-None c =
    let s = c.args.self in
    let t = c.in-Some-None.t in
    let q = MatchOption-at_some _ _ t c.in-Some-None.is-0 c.next_from-truth.ensures in
    let no-falsity = MatchOption-at_none _ _ c.in-Some-None.is-1 c.next_from-falsity.ensures in (
      omega (arith, q.0),
      omega (arith, q.1),
      truth_at s t ∙ q.2,
      none_between s c.args.from (2 * t) (λ i m u. q.3 i m (omega arith)) (λ i m u. no-falsity i m),
    )

pub returns-in-None-Some : goal.returns-in-None-Some
returns-in-None-Some c =
    let s = c.args.self in
    let f = c.in-None-Some.f in
    let no_truth = MatchOption-at_none _ _ c.in-None-Some.is-0 c.next_from-truth.ensures in
    let p = MatchOption-at_some _ _ f c.in-None-Some.is-1 c.next_from-falsity.ensures in (
      omega (arith, p.0),
      omega (arith, p.1),
      falsity_at s f ∙ p.2,
      none_between s c.args.from (2 * f + 1) (λ i m u. no_truth i m) (λ i m u. p.3 i m (omega arith)),
    )

pub returns-then-t-f : goal.returns-then-t-f
returns-then-t-f c =
    let s = c.args.self in
    let t = c.in-Some-Some.t in
    let f = c.in-Some-Some.f in
    let q = MatchOption-at_some _ _ t c.in-Some-Some.is-0 c.next_from-truth.ensures in
    let p = MatchOption-at_some _ _ f c.in-Some-Some.is-1 c.next_from-falsity.ensures in (
      omega (arith, q.0),
      omega (arith, q.1),
      truth_at s t ∙ q.2,
      none_between s c.args.from (2 * t) (λ i m u. q.3 i m (omega arith)) (λ i m u. p.3 i m (omega arith)),
    )

pub returns-else-t-f : goal.returns-else-t-f
returns-else-t-f c =
    let s = c.args.self in
    let t = c.in-Some-Some.t in
    let f = c.in-Some-Some.f in
    let q = MatchOption-at_some _ _ t c.in-Some-Some.is-0 c.next_from-truth.ensures in
    let p = MatchOption-at_some _ _ f c.in-Some-Some.is-1 c.next_from-falsity.ensures in (
      omega (arith, p.0),
      omega (arith, p.1),
      falsity_at s f ∙ p.2,
      none_between s c.args.from (2 * f + 1) (λ i m u. q.3 i m (omega arith)) (λ i m u. p.3 i m (omega arith)),
    )
