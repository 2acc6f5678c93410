use Rattle.text.specs.Writers.{Writes}
use Rattle.text.specs.Cards.{card_of, taken_in}
use Rattle.text.proofs.card.CardText.write.Given as goal

abbrev pub invariant-loop-t : goal.invariant-loop-t
invariant-loop-t l = Writes (card_of (taken_in l.self.taken.now) l.self.steps l.t) l.initial.writer l.writer
