use Rattle.std.proofs.Common.{rules, ◌≡◌, ap, sym, ◌∙◌, arith}
use Rattle.vx_model.specs.ChunkData.{pieces_of}
use Rattle.vx_chunk.specs.declared.node.Node.{Node}
use Rattle.vx_chunk.specs.ChunkView.{node_piece}
use Rattle.vx_chunk.specs.Depth.{depth, depths}
use Rattle.vx_chunk.proofs.Depths.{parts_fall}
use Rattle.vx_chunk.proofs.+chunk.Goals as goal

pub node::Chunk::drop-drop-requires : goal.node::Chunk::drop-drop-requires
node::Chunk::drop-drop-requires t c κs =
    let is : depths (pieces_of c.in-Chunked.parts.items) ≡ depth c.args.self = ap (λ (x : Node). depth (node_piece x)) (sym c.in-Chunked.is) ∙ ap depth c.self.view_is in
    (((parts_fall c.in-Chunked.parts.items c.args.self t (omega (arith, is)) c.decreases, tt), tt), search rules)

pub node::Chunk::drop-drop-requires-in-Struct : goal.node::Chunk::drop-drop-requires-in-Struct
node::Chunk::drop-drop-requires-in-Struct t c κs =
    let is : depths (pieces_of c.in-Struct.fields.items) ≡ depth c.args.self = ap (λ (x : Node). depth (node_piece x)) (sym c.in-Struct.is) ∙ ap depth c.self.view_is in
    (((parts_fall c.in-Struct.fields.items c.args.self t (omega (arith, is)) c.decreases, tt), tt), search rules)
