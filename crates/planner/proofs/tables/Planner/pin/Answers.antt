use Rattle.std.proofs.Common.{sym, refl, ◌∙◌}
use Rattle.planner.proofs.Saying.{pinned_number, repins}
use Rattle.planner.proofs.tables.Planner.pin.Goals as goal

pub returns-then-is_some-clause-number : goal.returns-then-is_some-clause-number
returns-then-is_some-clause-number c =
    pinned_number c.args.self.now c.args.time c.args.step c.in_ok-cell.cell c.in_ok-cell.ensures.checked.1 c.pin_at.result (sym c.is_some.ensures ∙ c.if-is_some.true) c.pin_at.ensures

pub returns-clause-began : goal.returns-clause-began
returns-clause-began c = (
  record { stage = refl; fresh = c.pin.ensures.fresh },
  repins c.args.self.now _ c.args.time c.args.step c.in_ok-cell.cell c.from.result c.args.taken c.in_ok-cell.ensures.checked.1 c.from.ensures c.pin.ensures,
)
