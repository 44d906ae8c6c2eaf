-- Each part of a chunk is less deep than the chunk, so a walk down it ends.
use Rattle.std.specs.Prelude.{◌+◌, ◌≤◌, max, List, [], ◌∷◌}
use Rattle.std.proofs.Common.{arith}
use denote.Param.Weighed.{most}
use Rattle.vx_chunk.specs.declared.node.Node.{Node}
use Rattle.vx_chunk.specs.declared.node.Node.TheVariants.{Plain, Constant, Dict, Chunked, List as ListNode, Struct, Extension}
use Rattle.vx_chunk.specs.declared.node.Chunk.TheDeep.{deep-Node}
use Rattle.vx_chunk.specs.ChunkView.{node_piece}
use Rattle.vx_chunk.specs.Depth.{depth, depths}
use Rattle.vx_model.specs.ChunkData.{ChunkData, pieces_of}

most_is : (ps : List ChunkData) → most (λ p. depth p + 1) ps ≤ depths (pieces_of ps)
most_is [] = omega arith
most_is (p ∷ ps) = omega (arith, most_is ps)

pub depth_falls : (n : Node) → max (deep-Node n) 0 ≤ depth (node_piece n)
depth_falls (Plain dtype column) = omega arith
depth_falls (Constant dtype cell rows) = omega arith
depth_falls (Dict codes values) = omega arith
depth_falls (Chunked dtype parts) = omega (arith, most_is parts.items)
depth_falls (ListNode dtype elements offsets valid) = omega arith
depth_falls (Struct dtype fields valid rows) = omega (arith, most_is fields.items)
depth_falls (Extension dtype storage) = omega arith
