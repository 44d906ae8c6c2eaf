-- What a reader of columns that answers so says.
use Rattle.std.proofs.Common.{◌≡◌, ℕ, ◌≤◌, List, length, refl, Result, Ok, Err}
use Rattle.std.specs.Prelude.{IfOk}
use Rattle.vx_model.specs.Ty.{Ty, extension}
use Rattle.vx_model.proofs.Views.{view_rules}
use Rattle.vx_byte_reader.proofs.FieldLaws.{IsBytes}
use Rattle.vx_cell_codec.specs.declared.error.CellError.{CellError}
use Rattle.vx_cell_codec.specs.Reading.{cells_at}
use Rattle.vx_cell_codec.specs.Filled.{AreFilled}
use Rattle.vx_cell_codec.specs.Views.{Gives}
use Rattle.vx_cell_codec.proofs.FilledLaws.{cells_take, rows_bounded}
use Rattle.vx_column.specs.declared.column.Column.{Column}
use Rattle.vx_column.specs.ColumnView.{column_cells}

pub is_found : (t : Ty) (rows : ℕ) (bytes : List ℕ) (r : Result Column CellError) → IsBytes bytes → Gives column_cells r (cells_at t rows bytes) → IfOk r (λ c. AreFilled t rows bytes (column_cells c))
is_found t rows bytes (Ok c) is_bytes e = cells_take t rows bytes (column_cells c) is_bytes e
is_found t rows bytes (Err e) is_bytes h = tt

pub is_bounded : (t : Ty) (rows : ℕ) (bytes : List ℕ) (r : Result Column CellError) → IsBytes bytes → Gives column_cells r (cells_at t rows bytes) → IfOk r (λ c. rows ≤ length bytes)
is_bounded t rows bytes (Ok c) is_bytes e = rows_bounded t rows bytes (column_cells c) (cells_take t rows bytes (column_cells c) is_bytes e)
is_bounded t rows bytes (Err e) is_bytes h = tt

-- an extension is read as what it is stored as
pub extension_cells : (tag : List ℕ) (t : Ty) (rows : ℕ) (bytes : List ℕ) → cells_at (extension tag t) rows bytes ≡ cells_at t rows bytes
unfolding cells_at
extension_cells tag t rows bytes = refl

pub ruleset rows_rules = (view_rules, extension_cells)
