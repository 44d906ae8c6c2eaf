use Rattle.std.proofs.Common.{◌≡◌, drop}
use Rattle.vx_model.specs.TyView.{ty}
use Rattle.vx_column.specs.ColumnView.{column_cells}
use Rattle.vx_rules.specs.Runs.{stretches}
use Rattle.vx_strategy_options.specs.OptionViews.{dict_options}
use Rattle.vx_runs.specs.Cutting.{Running}
use Rattle.vx_dict_encoder.specs.Front.{first_run, front}
use Rattle.vx_dict_encoder.proofs.front.front.Given as goal

abbrev pub invariant-loop-row : goal.invariant-loop-row
invariant-loop-row l = record {
  running : Running (dict_options l.limits 0) (ty l.dtype) l.values.distinct l.values.cost;
  front : first_run (stretches (dict_options l.limits 0) (ty l.dtype) l.values.distinct l.codes.items (drop l.row (column_cells l.column)))
      ≡ front (dict_options l.limits 0) (ty l.dtype) l.fn.values.distinct (column_cells l.column);
}
