use Rattle.std.proofs.Common.{map}
use Rattle.vx_model.specs.TyView.{ty}
use Rattle.vx_model.specs.TreeView.{tree}
use Rattle.vx_column.specs.ColumnView.{column_cells}
use Rattle.vx_file_stats.proofs.PieceTypes.{chunk_fits}
use Rattle.vx_file_stats.proofs.rows.with_chunk.Goals as goal

pub with_column-requires : goal.with_column-requires
with_column-requires c = chunk_fits c.args.chunk.now (ty c.dtype-in-Some.result.now) (column_cells c.in-Some.column.now) c.sound.ensures c.dtype-in-Some.ensures c.in-Some.ensures.cells

pub with_column-requires-2 : goal.with_column-requires-2
with_column-requires-2 c = chunk_fits c.args.chunk.now (ty c.dtype-2.result.now) (map tree c.in-Ok.cells.items) c.sound.ensures c.dtype-2.ensures c.in-Ok.ensures.cells
