use Rattle.text.proofs.Writing.{writes_more}
use Rattle.text.proofs.card.step.Goals as goal

pub returns : goal.returns
returns c = writes_more c.byte.ensures c.number.ensures
