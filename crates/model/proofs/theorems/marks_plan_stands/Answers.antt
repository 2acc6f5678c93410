use Rattle.model.proofs.MarksPlan.{marks_plan}
use Rattle.model.proofs.theorems.marks_plan_stands.Goals as goal

pub returns : goal.returns
returns c = marks_plan
