use Rattle.std.proofs.Common.{◌<◌, length, arith}
use Rattle.vx_column.specs.ColumnView.{column_cells}
use Rattle.vx_column.proofs.Lents.{row_more}
use Rattle.vx_column.proofs.column.Column.rows.Goals as goal

pub loop-row-preserved : goal.loop-row-preserved
loop-row-preserved c =
    let lt : c.loop-row.row < length (column_cells c.args.self.now) = omega arith in
    row_more c.loop-row.rows.items _ (column_cells c.args.self.now) c.loop-row.row c.row.result lt c.row.ensures c.in_ok-push.ensures.items c.loop-row.invariant
