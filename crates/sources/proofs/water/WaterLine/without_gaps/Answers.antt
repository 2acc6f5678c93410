use Rattle.std.proofs.Common.{◌≡◌, rules}
use Rattle.sources.specs.Listed.{literals_of}
use Rattle.sources.specs.Water.{no_gaps}
use Rattle.sources.specs.Tables.{gathered}
use Rattle.sources.proofs.water.WaterLine.without_gaps.Goals as goal

pub returns : goal.returns
returns c = gathered (λ j all. all.set ≡ literals_of (no_gaps j)) _ c.args.self.meters _ _ c.none.ensures
    (λ j a b h k. let is = k.2 in search rules) c.gather.ensures
