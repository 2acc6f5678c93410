use Rattle.std.proofs.Common.{ap, ◌∙◌}
use Rattle.sets.specs.Literals.{code}
use Rattle.sets.specs.Sets.{lit_in}
use Rattle.sets.specs.declared.facts.LiteralSet.{LiteralSet}
use Rattle.clauses.specs.Pairs.{rel}
use Rattle.std.proofs.lemmas.Bool.{lt-ltb}
use Rattle.clauses.proofs.Laws.{single_yes, single_no, self_at, single_all, or_at, and_true_at}
use Rattle.clauses.proofs.pairs.Pairs.singles.Goals as goal
use Rattle.clauses.proofs.pairs.Pairs.singles.Goals.{then-contains, else-contains}

pub loop-a-preserved : goal.loop-a-preserved
loop-a-preserved c x =
    let m = c.args.self.now in
    let a = c.loop-a.a in
    elim c.if-contains.branch [
      | then-contains w ↦ single_yes (rel m x x) (lit_in c.loop-a.all x) (lit_in c.if-contains.all x) (code x) a (c.loop-a.invariant x)
          (ap (λ (s : LiteralSet). lit_in s x) w.all-is ∙ w.insert-all.ensures.members x ∙ or_at _ _ _ (and_true_at _ _ (lt-ltb a 128 c.loop-a-test.true)))
          (λ e. self_at m x a _ c.contains.ensures e ∙ w.if-contains.true)
      | else-contains w ↦ ap (λ (s : LiteralSet). lit_in s x) w.all-is ∙ single_no (rel m x x) (lit_in c.loop-a.all x) (code x) a (c.loop-a.invariant x)
          (λ e. self_at m x a _ c.contains.ensures e ∙ w.if-contains.false)
    ]

pub returns : goal.returns
returns c l = single_all c.args.self.now l c.loop-a.a _ c.loop-a-test.false (c.loop-a.invariant l)
