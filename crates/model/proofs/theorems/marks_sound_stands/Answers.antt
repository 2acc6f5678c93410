use Rattle.model.proofs.MarksSound.{marks_sound}
use Rattle.model.proofs.theorems.marks_sound_stands.Goals as goal

pub returns : goal.returns
returns c = marks_sound
