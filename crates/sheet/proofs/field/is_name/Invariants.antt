use Rattle.std.proofs.Common.{ℕ, ◌<◌, ◌⊎◌, get_or}
use Rattle.std.specs.Int.{IsInRange}
use Rattle.sheet.proofs.field.is_name.Given as goal

abbrev pub invariant-loop-b : goal.invariant-loop-b
invariant-loop-b l = (i : ℕ) → i < l.b-index → IsInRange 97 122 (get_or l.s i 0) ⊎ IsInRange 48 57 (get_or l.s i 0)
