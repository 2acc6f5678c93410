use Rattle.std.proofs.Common.{◌+◌, ◌*◌, ◌<◌, ap, ◌∙◌, arith}
use Rattle.sets.specs.Literals.{Literal}
use Rattle.sets.specs.Sets.{with_literal}
use Rattle.sources.specs.Waters.{lit_is_not}
use Rattle.sources.proofs.water.Literals.is_not.Goals as goal

pub returns : goal.returns
returns c =
    let l : 2 * c.args.fact + 1 < 128 = omega (arith, c.requires) in
    c.insert.ensures.value l ∙ ap (λ (k : Literal). with_literal c.args.self.set k) (lit_is_not c.args.fact)
