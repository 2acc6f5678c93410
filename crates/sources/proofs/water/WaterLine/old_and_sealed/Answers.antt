use Rattle.std.proofs.Common.{◌≡◌, rules}
use Rattle.sources.specs.Listed.{facts_of}
use Rattle.sources.specs.Water.{at_first}
use Rattle.sources.specs.Tables.{gathered}
use Rattle.sources.proofs.water.WaterLine.old_and_sealed.Goals as goal

pub returns : goal.returns
returns c = gathered (λ j all. all ≡ facts_of (at_first j)) _ c.args.self.meters _ _ c.empty.ensures.value
    (λ j a b h k. let is = k.2 in search rules) c.gather.ensures
