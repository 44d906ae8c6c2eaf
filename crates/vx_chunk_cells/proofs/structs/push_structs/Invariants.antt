use Rattle.std.proofs.Common.{◌≡◌, ◌+◌, ◌++◌, length, map, drop}
use Rattle.std.specs.Vec.Iter.{into_iter_items}
use Rattle.vx_model.specs.TreeView.{tree}
use Rattle.vx_chunk_cells.specs.Columns.{trees_in, structs}
use Rattle.vx_chunk_cells.proofs.structs.push_structs.Given as goal

abbrev pub invariant-loop-row : goal.invariant-loop-row
invariant-loop-row l = record {
  count : l.i + length (into_iter_items l.row-iterator) ≡ length l.fn.rows.items;
  cells : map tree l.out.items ++ structs (map trees_in (into_iter_items l.row-iterator)) (drop l.i l.valid) ≡ map tree l.fn.out.items ++ structs (map trees_in l.fn.rows.items) l.valid;
}
