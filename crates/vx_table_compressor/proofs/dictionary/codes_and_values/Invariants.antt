use Rattle.std.proofs.Common.{◌≡◌, ◌≤◌, ◌++◌, map, length, drop}
use Rattle.vx_model.specs.TreeView.{tree}
use Rattle.vx_column.specs.ColumnView.{column_cells}
use Rattle.vx_rules.specs.Columns.{offset_cell}
use Rattle.vx_rules.specs.Runs.{distinct_from}
use Rattle.vx_compressor_spec.specs.TableImage.{distinct, codes_of}
use Rattle.vx_table_compressor.proofs.dictionary.codes_and_values.Given as goal

abbrev pub invariant-loop-row : goal.invariant-loop-row
invariant-loop-row l = record {
  few : length l.values ≤ l.most;
  values : distinct_from l.values (drop l.row (column_cells l.column)) ≡ distinct (column_cells l.column);
  codes : map tree l.codes.items ++ map offset_cell (codes_of (distinct (column_cells l.column)) (drop l.row (column_cells l.column))) ≡ map offset_cell (codes_of (distinct (column_cells l.column)) (column_cells l.column));
}
