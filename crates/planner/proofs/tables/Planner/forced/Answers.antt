use Rattle.model.specs.Answers.{forced_number}
use Rattle.planner.proofs.Obeying.{forced_obeys}
use Rattle.planner.proofs.tables.Planner.forced.Goals as goal

pub returns : goal.returns
returns c = forced_obeys c.args.self.now c.args.time c.args.step c.in_ok-cell.cell (forced_number c.forced.result) c.in_ok-cell.ensures.checked.1 c.forced.ensures
