use Rattle.std.proofs.Common.{◌≡◌, true, sym, ◌∙◌, ⊎_elim, arith}
use Rattle.std.proofs.lemmas.Bool.{or_cases, or_left, or_right}
use Rattle.sets.specs.Literals.{Literal, lit}
use Rattle.sets.specs.Sets.{lit_in}
use Rattle.model.specs.Clauses.{Clause}
use Rattle.clauses.specs.Pairs.{rel}
use Rattle.clauses.proofs.Laws.{walk_lit, walk_end}
use Rattle.clauses.proofs.pairs.Pairs.linked.Goals as goal

pub loop-a-preserved : goal.loop-a-preserved
loop-a-preserved c =
    let W = rel c.args.self.now in
    let inv = c.loop-a.invariant in
    let e = c.in-Some.ensures in
    let a = c.in-Some.a in
    let more = c.union-all.result in
    let u = c.union-all.ensures.members in
    let r = c.row.ensures in (
      λ x h. ⊎_elim (λ q. inv.0 x q) (λ q. (lit a, e.2, sym (r x) ∙ q)) (or_cases _ _ (sym (u x) ∙ h)),
      walk_lit (λ k. (x : Literal) → Clause W k x → lit_in more x ≡ true) c.args.set c.loop-a.from a
          (λ k l m x h. u x ∙ or_left _ _ (inv.1 k l m x h)) e.3 (λ x h. u x ∙ or_right _ _ (r x ∙ h)),
      omega (arith, e.1),
    )

pub returns-clause-all : goal.returns-clause-all
returns-clause-all c k l m h = c.loop-a.invariant.1 k (walk_end c.args.set c.loop-a.from c.in_default.ensures k m) m l h
