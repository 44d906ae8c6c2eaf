use Rattle.std.proofs.Common.{◌≡◌, true, drop}
use Rattle.vx_model.specs.Words.{all_by}
use Rattle.vx_model.specs.CellData.{fits}
use Rattle.vx_model.specs.TyView.{ty}
use Rattle.vx_column.specs.ColumnView.{column_cells}
use Rattle.vx_strategy_options.specs.OptionViews.{dict_options}
use Rattle.vx_runs.specs.Cutting.{cut_with, Running}
use Rattle.vx_runs.proofs.rows.add_rows.Given as goal

abbrev pub invariant-loop-row : goal.invariant-loop-row
invariant-loop-row l = record {
  fit : all_by (fits (ty l.dtype)) (drop l.row (column_cells l.column)) ≡ true;
  running : Running (dict_options l.limits 0) (ty l.dtype) l.rows.distinct l.rows.cost;
  cut : cut_with (dict_options l.limits 0) (ty l.dtype) l.rows.closed.items l.rows.distinct l.rows.codes.items (drop l.row (column_cells l.column))
      ≡ cut_with (dict_options l.limits 0) (ty l.dtype) l.fn.rows.closed.items l.fn.rows.distinct l.fn.rows.codes.items (column_cells l.column);
}
