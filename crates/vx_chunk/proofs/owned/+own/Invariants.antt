use Rattle.std.proofs.Common.{◌≡◌, ◌+◌, ◌*◌, ◌≤◌, ◌++◌, map}
use Rattle.std.specs.Vec.Iter.{into_iter_items}
use Rattle.vx_model.specs.TreeView.{tree}
use Rattle.vx_model.specs.ChunkData.{pieces_of, joined_cells}
use Rattle.vx_chunk.specs.Depth.{depth, depths}
use Rattle.vx_chunk.proofs.owned.+own.Given as goal

abbrev pub decreases-own_cells : goal.decreases-own_cells
decreases-own_cells l = 2 * depth l.chunk + 1

abbrev pub decreases-own_parts : goal.decreases-own_parts
decreases-own_parts l = 2 * depths (pieces_of l.parts.items)

abbrev pub invariant-own_parts-loop-part : goal.invariant-own_parts-loop-part
invariant-own_parts-loop-part l = record {
  cells : map tree l.cells.items ++ joined_cells (pieces_of (into_iter_items l.part-iterator)) ≡ joined_cells (pieces_of l.fn.parts.items);
  deep : depths (pieces_of (into_iter_items l.part-iterator)) ≤ depths (pieces_of l.fn.parts.items);
}
