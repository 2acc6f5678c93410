use Rattle.std.proofs.Common.{◌≡◌, ◌+◌, ◌-◌, ◌<◌, [], ◌∷◌, ◌++◌, length, get_or, take, sym, refl, ap, ◌∙◌, arith}
use Rattle.std.proofs.lemmas.List.{take_more}
use Rattle.sets.proofs.stack.Stack.pop.Goals as goal

pub returns : goal.returns
returns g c =
    let xs = c.args.self.now.table.now in
    let n = c.args.self.now.len in
    let d = c.index-self-self.result in
    let up : n - 1 + 1 ≡ n = omega arith in
    let lt : n - 1 < length xs = omega (arith, c.args.self.now.fits) in
    let m : take (n - 1 + 1) xs ≡ take (n - 1) xs ++ get_or xs (n - 1) d ∷ [] = take_more xs (n - 1) d lt in
    record { named = refl; table = refl; len = refl; held = ap (λ k. take k xs) (sym up) ∙ m }
