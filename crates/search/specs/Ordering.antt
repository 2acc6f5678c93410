-- The order that a table of cells gives. Assumes nothing.
use Rattle.std.specs.Prelude.{ℕ, suc, cond, List, [], ◌∷◌}
use Rattle.model.specs.declared.cell.Cell.{Cell}
use Rattle.model.specs.Firsts.{Places}
use Rattle.search.specs.Levels.{cell_at}
use Rattle.search.specs.Pinned.{is_cell}

-- the first place at which the cell stands
abbrev pub find_cell : List Cell → Cell → ℕ
find_cell [] c = 0
find_cell (x ∷ xs) c = cond (is_cell x c.time c.step) 0 (suc (find_cell xs c))

abbrev pub places_in : List Cell → Places
places_in order = record { cell = cell_at order; place = find_cell order }
