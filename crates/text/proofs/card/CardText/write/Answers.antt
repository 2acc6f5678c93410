use Rattle.text.proofs.Lines.{card_more}
use Rattle.text.proofs.card.CardText.write.Goals as goal

pub loop-t-preserved : goal.loop-t-preserved
loop-t-preserved c = card_more c.args.self.now.taken.now c.min.result c.args.self.now.steps c.loop-t.t c.loop-t-test.true c.loop-t.invariant c.line.ensures
