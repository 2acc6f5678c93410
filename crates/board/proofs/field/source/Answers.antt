use Rattle.std.proofs.Common.{◌≡◌, ℕ, List, ◌++◌, rules}
use Rattle.board.proofs.Words.{no_source, sheet_bytes}
use Rattle.board.proofs.field.source.Goals as goal

pub returns-in_err-count : goal.returns-in_err-count
returns-in_err-count c =
    let no : (f : List ℕ) → c.args.s.now ≡ sheet_bytes ++ f → ⊥ = search rules in
    rw c.from_residual-in_err-count.ensures (no_source c.args.s.now _ no c.in_ok-meters.ensures c.in_err-count.ensures)
