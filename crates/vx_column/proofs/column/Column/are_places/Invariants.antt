use Rattle.std.proofs.Common.{◌≡◌, drop}
use Rattle.vx_model.specs.Words.{all_by}
use Rattle.vx_model.specs.ChunkData.{is_code}
use Rattle.vx_column.specs.ColumnView.{column_cells}
use Rattle.vx_column.proofs.column.Column.are_places.Given as goal

abbrev pub invariant-loop-row : goal.invariant-loop-row
invariant-loop-row l = all_by (is_code l.count) (drop l.row (column_cells l.self)) ≡ all_by (is_code l.count) (column_cells l.self)
