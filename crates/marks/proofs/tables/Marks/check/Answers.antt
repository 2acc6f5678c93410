use Rattle.std.proofs.Common.{ℕ, ◌+◌, sym, ap, ◌∙◌, subst, inl, inr, ⊎_elim}
use Rattle.marks.specs.declared.mark.Mark.TheVariants.{Fact, Taken}
use Rattle.marks.specs.Grows.{on}
use Rattle.marks.specs.Rules.{Concluded, On}
use Rattle.marks.specs.Rules.{Concluded.stays_false, Concluded.was_true}
use Rattle.marks.proofs.Growth.{added_then, added_as}
use Rattle.marks.proofs.Conclude.{none_left, only_left, where_none, where_some}
use Rattle.marks.proofs.tables.Marks.check.Goals as goal

pub returns-then-is_empty : goal.returns-then-is_empty
returns-then-is_empty c =
    let ix = c.args.ix.now in let m = c.args.self.now in let t = c.args.t in let l = c.args.l.number in
    let e = c.if-is_empty.ensures in let f = c.opposite-f.ensures in let r = c.minus-rest.result in
    let before = c.is_on-was_false.ensures ∙ ap (λ (k : ℕ). on m (Fact t k)) f in
    let n = none_left ix m t l r c.minus-rest.ensures e in
    added_then c.add_if.ensures c.add_if-then-is_empty.ensures
    (λ y q. ⊎_elim
    (λ h. inl (before ∙ h.0, h.1 ∙ ap (λ (k : ℕ). Fact (t + 1) k) (sym f)))
    (λ h. inr (c.is_on-turns_true.ensures ∙ h.0, h.1))
    (where_none ix m t l r c.minus-rest.ensures e y q))
    (λ y h. subst (Concluded ix (On m) t l) (sym (h.1 ∙ ap (λ (k : ℕ). Fact (t + 1) k) f)) (stays_false n (sym before ∙ h.0)))
    (λ y h. subst (Concluded ix (On m) t l) (sym h.1) (was_true n (sym c.is_on-turns_true.ensures ∙ h.0)))

pub returns-in-Some : goal.returns-in-Some
returns-in-Some c =
    let ix = c.args.ix.now in let m = c.args.self.now in let t = c.args.t in let l = c.args.l.number in
    let only = c.in-Some.ensures in let s = c.if-is_empty.ensures in let r = c.minus-rest.result in
    let before = c.is_on-was_false.ensures ∙ ap (λ (k : ℕ). on m (Fact t k)) c.opposite-f.ensures in
    added_as c.add.ensures
    (λ y q. let w = where_some ix m t l r c.minus-rest.ensures s.0 s.2 y q in w.4 ∙ ap (λ (k : ℕ). Taken t k) (only.1 w.0 w.1.0))
    (λ y h. subst (Concluded ix (On m) t l) (sym h)
    (only_left ix m t l r c.minus-rest.ensures c.in-Some.o only (sym before ∙ c.if-was_false.true) (sym c.is_on-turns_true.ensures ∙ c.if-turns_true.true)))
