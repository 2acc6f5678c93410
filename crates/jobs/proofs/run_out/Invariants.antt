use Rattle.std.proofs.Common.{◌*◌}
use Rattle.planner.specs.Obeys.{ledger}
use Rattle.jobs.specs.Running.{Begun, Stretch}
use Rattle.jobs.proofs.run_out.Given as goal

abbrev pub invariant-loop-run : goal.invariant-loop-run
invariant-loop-run l = Begun (ledger l.initial.planner) → Stretch (ledger l.initial.planner) (l.run * 1000000) l.planner
