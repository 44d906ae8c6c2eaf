use Rattle.std.proofs.Common.{List, ℕ, map, ap₂, ◌∙◌}
use Rattle.vx_model.specs.TyView.{ty}
use Rattle.vx_column.specs.ColumnView.{column_cells}
use Rattle.vx_strategy_options.specs.OptionViews.{dict_options}
use Rattle.vx_runs.specs.declared.rows.Closed.{Closed}
use Rattle.vx_runs.specs.Cutting.{cut_with}
use Rattle.vx_runs.proofs.Steps.{cut_is}
use Rattle.vx_runs.proofs.rows.cut.Goals as goal

pub returns-clause-cut : goal.returns-clause-cut
returns-clause-cut c =
    cut_is (dict_options c.args.limits 0) (ty c.args.dtype.now) c.add_rows.new.rows.closed.items c.add_rows.new.rows.codes.items c.add_rows.new.rows.distinct
    ∙ c.in_ok-add_rows.ensures.cut
    ∙ ap₂ (λ (x : List Closed) (y : List ℕ). cut_with (dict_options c.args.limits 0) (ty c.args.dtype.now) x c.args.distinct y (column_cells c.args.column.now)) c.new.ensures.items c.in_ok-with_capacity.ensures.items
