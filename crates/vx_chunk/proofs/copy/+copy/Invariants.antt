use Rattle.std.proofs.Common.{◌≡◌, ◌+◌, ◌*◌, take}
use Rattle.vx_model.specs.ChunkData.{pieces_of}
use Rattle.vx_chunk.specs.ChunkView.{node_piece}
use Rattle.vx_chunk.specs.Depth.{depth, depths}
use Rattle.vx_chunk.proofs.copy.+copy.Given as goal

abbrev pub decreases-copy : goal.decreases-copy
decreases-copy l = 3 * depth l.chunk.now + 2

abbrev pub decreases-copy_node : goal.decreases-copy_node
decreases-copy_node l = 3 * depth (node_piece l.node.now) + 1

abbrev pub decreases-copy_box : goal.decreases-copy_box
decreases-copy_box l = 3 * depth l.chunk.now.value + 3

abbrev pub decreases-copy_all : goal.decreases-copy_all
decreases-copy_all l = 3 * depths (pieces_of l.chunks.now.items)

abbrev pub invariant-copy_all-loop-chunk : goal.invariant-copy_all-loop-chunk
invariant-copy_all-loop-chunk l = l.copies.items ≡ take l.chunk-index l.chunks.items
