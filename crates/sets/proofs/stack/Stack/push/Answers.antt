use Rattle.std.proofs.Common.{◌<◌, length, refl, arith, rules}
use Rattle.std.proofs.lemmas.List.{take_more_set}
use Rattle.sets.proofs.stack.Stack.push.Goals as goal

pub returns : goal.returns
returns g c =
    let lt : c.args.self.now.len < length c.args.self.now.table.now = omega arith in
    record { named = refl; fits = search rules; table = refl; len = refl; held = λ _. take_more_set _ _ _ lt }
