use Rattle.std.proofs.Common.{◌≤◌, length, take, sym, refl, arith, length-take}
use Rattle.std.proofs.lemmas.List.{take-take, take_all}
use Rattle.sets.proofs.stack.Stack.truncate.Goals as goal

pub returns-then-n-self : goal.returns-then-n-self
returns-then-n-self g c =
    let lt : c.args.n ≤ c.args.self.now.len = omega arith in
    record { named = refl; table = refl; len = omega arith; held = sym (take-take _ _ _ lt) }

pub returns-else-n-self : goal.returns-else-n-self
returns-else-n-self g c =
    let xs = c.args.self.now.table.now in
    let h : length (take c.args.self.now.len xs) ≤ c.args.n = simp length-take (omega arith) in
    record { named = refl; table = refl; len = omega arith; held = sym (take_all _ _ h) }
