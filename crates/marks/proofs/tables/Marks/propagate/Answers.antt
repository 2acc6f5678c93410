use Rattle.std.proofs.Common.{◌≡◌, inr, arith}
use Rattle.marks.proofs.Growth.{has_grows}
use Rattle.marks.proofs.Closure.{exactly}
use Rattle.marks.proofs.tables.Marks.propagate.Goals as goal

pub returns-after-loop-self-clause-rest : goal.returns-after-loop-self-clause-rest
returns-after-loop-self-clause-rest c seed st g s =
    let ix = c.args.ix.now in let m = c.loop-self.self in let inv = c.loop-self.invariant in
    let whole : m.head ≡ m.len = omega (arith, c.loop-self-test.false, m.passed) in
    record {
      settled = inv.1 st;
      done = inr whole;
      exact = exactly ix seed m (inv.0.good seed g) (inv.1 st) (λ y h. has_grows inv.0.grows y (s y h)) (inr whole);
    }
