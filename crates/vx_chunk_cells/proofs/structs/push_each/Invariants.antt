use Rattle.std.proofs.Common.{◌≡◌, ◌++◌, map, take, drop}
use Rattle.std.specs.Vec.Iter.{into_iter_items}
use Rattle.vx_model.specs.TreeView.{tree}
use Rattle.vx_chunk_cells.specs.Columns.{trees_in, pushed_each}
use Rattle.vx_chunk_cells.proofs.structs.push_each.Given as goal

abbrev pub invariant-loop-row : goal.invariant-loop-row
invariant-loop-row l =
    map trees_in (take l.row-index l.row-items) ++ pushed_each (map trees_in (drop l.row-index l.row-items)) (map tree (into_iter_items l.cells)) ≡ pushed_each (map trees_in l.fn.rows.items) (trees_in l.fn.cells)
