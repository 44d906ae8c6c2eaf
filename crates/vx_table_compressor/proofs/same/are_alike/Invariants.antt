use Rattle.std.proofs.Common.{◌≡◌, drop}
use Rattle.vx_model.specs.Words.{all_by}
use Rattle.vx_typed.specs.Lent.{lent_cell}
use Rattle.vx_column.specs.ColumnView.{column_cells}
use Rattle.vx_compressor_spec.specs.TableImage.{tree_eq}
use Rattle.vx_table_compressor.specs.Images.{are_alike}
use Rattle.vx_table_compressor.proofs.same.are_alike.Given as goal

abbrev pub invariant-loop-row : goal.invariant-loop-row
invariant-loop-row l = all_by (tree_eq (lent_cell l.first)) (drop l.row (column_cells l.column)) ≡ are_alike (column_cells l.column)
