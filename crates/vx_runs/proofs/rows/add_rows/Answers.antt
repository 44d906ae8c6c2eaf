use Rattle.std.proofs.Common.{◌+◌, ◌<◌, length, drop, ap, sym, ◌∙◌, arith}
use Rattle.std.specs.Prelude.{List}
use Rattle.vx_model.specs.TyView.{ty}
use Rattle.vx_model.specs.CellData.{CellData}
use Rattle.vx_column.specs.ColumnView.{column_cells}
use Rattle.vx_typed.specs.Lent.{lent_cell}
use Rattle.vx_strategy_options.specs.OptionViews.{dict_options}
use Rattle.vx_runs.specs.Cutting.{cut_with}
use Rattle.vx_runs.proofs.Steps.{next_row, row_plain, rest_fit}
use Rattle.vx_runs.proofs.rows.add_rows.Goals as goal

pub add_lent-requires-clause-plain : goal.add_lent-requires-clause-plain
add_lent-requires-clause-plain c =
    let lt : c.loop-row.row < length (column_cells c.args.column.now) = omega arith in
    row_plain (column_cells c.args.column.now) c.loop-row.row (lent_cell c.row.result) lt c.row.ensures (ty c.args.dtype.now) c.loop-row.invariant.fit c.requires.dict

pub loop-row-preserved : goal.loop-row-preserved
loop-row-preserved c =
    let lt : c.loop-row.row < length (column_cells c.args.column.now) = omega arith in
    record {
      fit = rest_fit (column_cells c.args.column.now) c.loop-row.row (lent_cell c.row.result) lt c.row.ensures (ty c.args.dtype.now) c.loop-row.invariant.fit;
      running = c.in_ok-add_lent.ensures.running;
      cut = c.in_ok-add_lent.ensures.cut (drop (c.loop-row.row + 1) (column_cells c.args.column.now))
          ∙ ap (λ (more : List CellData). cut_with (dict_options c.args.limits 0) (ty c.args.dtype.now) c.loop-row.rows.closed.items c.loop-row.rows.distinct c.loop-row.rows.codes.items more) (sym (next_row (column_cells c.args.column.now) c.loop-row.row (lent_cell c.row.result) lt c.row.ensures))
          ∙ c.loop-row.invariant.cut;
    }
