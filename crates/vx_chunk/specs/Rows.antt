-- Rows of several chunks beside each other.
use Rattle.std.specs.Prelude.{ℕ, ◌&&◌, nat_le, Bool, true, List, [], ◌∷◌, length, Option, Some, None}
use Rattle.vx_model.specs.CellData.{CellData, null_cell}
use Rattle.vx_model.specs.ChunkData.{ChunkData, cells, cell_at}
use Rattle.vx_chunk_cells.specs.Window.{window}

-- whether each chunk has so many rows at least
abbrev pub have_rows : ℕ → List ChunkData → Bool
have_rows n [] = true
have_rows n (p ∷ ps) = nat_le n (length (cells p)) && have_rows n ps

-- a field's cells from one row to another
abbrev pub column : ℕ → ℕ → ChunkData → List CellData
column from to p = window from to (cells p)

-- the value at a place; null where there is none
abbrev pub value_at : List CellData → Option ℕ → CellData
value_at values None = null_cell
value_at values (Some n) = cell_at values n
