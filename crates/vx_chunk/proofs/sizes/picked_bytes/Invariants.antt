use Rattle.std.proofs.Common.{◌≡◌, ◌+◌, ◌-◌, ◌^◌, ◌<◌, min, map}
use Rattle.vx_model.specs.Words.{total_by}
use Rattle.vx_model.specs.CellData.{cell_size}
use Rattle.vx_model.specs.ChunkData.{piece_type, cells, picked}
use Rattle.vx_chunk_cells.specs.Window.{window}
use Rattle.vx_column.specs.ColumnView.{column_cells}
use Rattle.vx_chunk.proofs.sizes.picked_bytes.Given as goal

abbrev pub invariant-loop-row : goal.invariant-loop-row
invariant-loop-row l = record {
  short : l.total < 2 ^ 128;
  sum : min (l.total + total_by (cell_size (piece_type l.values)) (map (picked (cells l.values)) (window l.row l.to (column_cells l.codes)))) (2 ^ 128 - 1)
      ≡ min (total_by (cell_size (piece_type l.values)) (map (picked (cells l.values)) (window l.from l.to (column_cells l.codes)))) (2 ^ 128 - 1);
}
