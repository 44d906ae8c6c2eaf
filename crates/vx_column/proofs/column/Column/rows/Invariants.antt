use Rattle.std.proofs.Common.{◌≡◌, ◌++◌, map, drop}
use Rattle.vx_typed.specs.Lent.{lent_cell}
use Rattle.vx_column.specs.ColumnView.{column_cells}
use Rattle.vx_column.proofs.column.Column.rows.Given as goal

abbrev pub invariant-loop-row : goal.invariant-loop-row
invariant-loop-row l = map lent_cell l.rows.items ++ drop l.row (column_cells l.self) ≡ column_cells l.self
