use Rattle.std.proofs.Common.{ℕ, ◌<◌, get_or, take}
use Rattle.std.specs.Int.{IsInRange}
use Rattle.std.specs.Str.Parse.{digits_value}
use Rattle.board.proofs.Cutting.{Stands}
use Rattle.board.proofs.field.number.Given as goal

abbrev pub invariant-loop-b : goal.invariant-loop-b
invariant-loop-b l =
    ((i : ℕ) → i < l.b-index → IsInRange 48 57 (get_or l.s i 0)) ×
    Stands (digits_value 10 (take l.b-index l.s)) l.n
