use Rattle.std.proofs.Common.{ap, rules}
use Rattle.board.proofs.Words.{counts, counted_command}
use Rattle.board.proofs.command.with_fields.Goals as goal

pub returns-in-Run : goal.returns-in-Run
returns-in-Run c = counted_command _ _ _ _ _ (ap counts c.in-Run.is) c.number.ensures c.map-in-Run.ensures.cases (λ n x p q. search rules)

pub returns-in-Path : goal.returns-in-Path
returns-in-Path c = counted_command _ _ _ _ _ (ap counts c.in-Path.is) c.number-in-Path.ensures c.map-in-Path.ensures.cases (λ n x p q. search rules)
