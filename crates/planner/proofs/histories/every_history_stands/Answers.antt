use Rattle.planner.proofs.Lawfulness.{every_history}
use Rattle.planner.proofs.histories.every_history_stands.Goals as goal

pub returns : goal.returns
returns c = every_history
