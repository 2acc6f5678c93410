use Rattle.std.proofs.Common.{below_more}
use Rattle.board.proofs.Words.{none_spelled}
use Rattle.board.proofs.command.parse.Goals as goal

pub loop-word-preserved : goal.loop-word-preserved
loop-word-preserved c = below_more _ _ c.loop-word.invariant c.in_default.ensures

pub returns : goal.returns
returns c = none_spelled _ _ c.loop-word-test.false c.loop-word.invariant
