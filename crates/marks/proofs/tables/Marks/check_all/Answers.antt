use Rattle.std.proofs.Common.{◌≡◌, ℕ, subst, ⊎_elim, arith}
use Rattle.std.proofs.lemmas.Bool.{both_ways, cases_eq, cases_lt}
use Rattle.marks.specs.Rules.{On, Follows}
use Rattle.marks.proofs.Growth.{has_grows}
use Rattle.marks.proofs.Closure.{worked_trans, check_worked, check_follows, follows_map}
use Rattle.marks.proofs.tables.Marks.check_all.Goals as goal

pub loop-l-preserved : goal.loop-l-preserved
loop-l-preserved c =
    let ix = c.args.ix.now in let t = c.args.t in let a = c.args.self.now in let b = c.loop-l.self in
    let inv = c.loop-l.invariant in let n = c.in-Some.ensures in let d = c.check.ensures in (
      worked_trans inv.0 (check_worked ix b c.check.new.self t c.in-Some.l d (omega (arith, c.requires.time, inv.0.grows.same_length))),
      λ i h k y f. ⊎_elim
          (λ lt. has_grows d.grows y (inv.1 i lt k y f))
          (λ ge. ⊎_elim
          (λ (e : i ≡ c.in-Some.l). check_follows ix b c.check.new.self t c.in-Some.l d y
          (follows_map ix (On a) (On b) t c.in-Some.l inv.0.grows.keeps y (subst (λ (j : ℕ). Follows ix (On a) t j y) e f)))
          (λ ne. absurd (both_ways _ (n.3 i ge (omega arith)) k))
          (cases_eq i c.in-Some.l))
          (cases_lt i c.loop-l.from),
      omega (arith, n.1),
    )
