use Rattle.text.proofs.Writing.{writes_more}
use Rattle.text.proofs.card.line.Goals as goal

pub returns : goal.returns
returns c = writes_more (writes_more c.number.ensures c.byte.ensures) (writes_more c.members.ensures c.byte-2.ensures)
