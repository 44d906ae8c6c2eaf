use Rattle.std.proofs.Common.{◌≡◌, ◌++◌, map}
use Rattle.vx_model.specs.TreeView.{tree}
use Rattle.vx_model.specs.ChunkData.{cells, picked}
use Rattle.vx_chunk_cells.specs.Window.{window}
use Rattle.vx_column.specs.ColumnView.{column_cells}
use Rattle.vx_chunk.proofs.rows.push_picked.Given as goal

abbrev pub invariant-loop-row : goal.invariant-loop-row
invariant-loop-row l =
    map tree l.out.items ++ map (picked (cells l.values)) (window l.row l.to (column_cells l.codes))
    ≡ map tree l.fn.out.items ++ map (picked (cells l.values)) (window l.from l.to (column_cells l.codes))
