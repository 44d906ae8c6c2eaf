use Rattle.std.proofs.Common.{◌≡◌, sym, ap, ◌∙◌}
use Rattle.vx_model.specs.TyView.{ty}
use Rattle.vx_model.specs.ChunkData.{pieces_of, dict_piece, chunked_piece, list_piece, struct_piece, extension_piece}
use Rattle.vx_chunk.specs.ChunkView.{node_piece}
use Rattle.vx_segment_writer.specs.Segment.{buffers, heads, refused}
use Rattle.vx_segment_writer.proofs.Steps.{on_ok, written_then, under, below_dict, below_chunked, below_list, below_struct, below_extension, goes_on, carries_on, is_done}
use Rattle.vx_segment_writer.proofs.encode.+encode.Goals as goal

pub push_chunk-returns-in_ok-push_chunk-in-Dict-clause-written :
    goal.push_chunk-returns-in_ok-push_chunk-in-Dict-clause-written
push_chunk-returns-in_ok-push_chunk-in-Dict-clause-written t c =
    let ctx = c.args.ctx.now in
    let codes = c.deref.result.now in
    let values = c.deref-in-Dict.result.now in
    let is : c.args.chunk.now ≡ dict_piece codes values = rw (c.deref.ensures, c.deref-in-Dict.ensures) (sym c.node.ensures.seen ∙ ap node_piece c.in-Dict.is) in
    on_ok c.push_chunk-in-Dict.result (λ rest. under c.args.padded _ _ _ _ _ _ ctx c.args.chunk.now _ _ _ (below_dict ctx c.args.chunk.now codes values is) c.in_ok-push_node.ensures.written
    (written_then c.args.padded _ _ _ _ _ _ (refused ctx codes) (refused ctx values) (buffers codes) (buffers values) (heads ctx codes) (heads ctx values) c.in_ok-push_chunk-in-Dict.ensures.written rest)) c.push_chunk-in-Dict.ensures.written

pub push_chunk-returns-in-Chunked-clause-written :
    goal.push_chunk-returns-in-Chunked-clause-written
push_chunk-returns-in-Chunked-clause-written t c =
    let ctx = c.args.ctx.now in
    let ps = c.deref-in-Chunked.result.now in
    let is : c.args.chunk.now ≡ chunked_piece (ty c.in-Chunked.dtype) (pieces_of ps) = rw c.deref-in-Chunked.ensures.value (sym c.node.ensures.seen ∙ ap node_piece c.in-Chunked.is) in
    on_ok c.push_chunks.result (λ rest. under c.args.padded _ _ _ _ _ _ ctx c.args.chunk.now _ _ _ (below_chunked ctx c.args.chunk.now _ (pieces_of ps) is) c.in_ok-push_node.ensures.written rest) c.push_chunks.ensures.written

pub push_chunk-returns-in-Struct-clause-written : goal.push_chunk-returns-in-Struct-clause-written
push_chunk-returns-in-Struct-clause-written t c =
    let ctx = c.args.ctx.now in
    let ps = c.deref-in-Struct.result.now in
    let is : c.args.chunk.now ≡ struct_piece (ty c.in-Struct.dtype) (pieces_of ps) c.in-Struct.valid.items c.in-Struct.rows = rw c.deref-in-Struct.ensures.value (sym c.node.ensures.seen ∙ ap node_piece c.in-Struct.is) in
    on_ok c.push_chunks-in-Struct.result (λ rest. under c.args.padded _ _ _ _ _ _ ctx c.args.chunk.now _ _ _ (below_struct ctx c.args.chunk.now _ (pieces_of ps) _ _ is) c.in_ok-push_node.ensures.written rest) c.push_chunks-in-Struct.ensures.written

pub push_chunk-returns-in-List-clause-written : goal.push_chunk-returns-in-List-clause-written
push_chunk-returns-in-List-clause-written t c =
    let ctx = c.args.ctx.now in
    let e = c.deref-in-List.result.now in
    let is : c.args.chunk.now ≡ list_piece (ty c.in-List.dtype) e c.in-List.offsets.items c.in-List.valid.items = rw c.deref-in-List.ensures (sym c.node.ensures.seen ∙ ap node_piece c.in-List.is) in
    on_ok c.push_chunk-in-List.result (λ rest. under c.args.padded _ _ _ _ _ _ ctx c.args.chunk.now _ _ _ (below_list ctx c.args.chunk.now _ e _ _ is) c.in_ok-push_node.ensures.written rest) c.push_chunk-in-List.ensures.written

pub push_chunk-returns-in-Extension-clause-written : goal.push_chunk-returns-in-Extension-clause-written
push_chunk-returns-in-Extension-clause-written t c =
    let ctx = c.args.ctx.now in
    let e = c.deref-in-Extension.result.now in
    let is : c.args.chunk.now ≡ extension_piece (ty c.in-Extension.dtype) e = rw c.deref-in-Extension.ensures (sym c.node.ensures.seen ∙ ap node_piece c.in-Extension.is) in
    on_ok c.push_chunk-in-Extension.result (λ rest. under c.args.padded _ _ _ _ _ _ ctx c.args.chunk.now _ _ _ (below_extension ctx c.args.chunk.now _ e is) c.in_ok-push_node.ensures.written rest) c.push_chunk-in-Extension.ensures.written

pub push_chunks-loop-chunk-preserved : goal.push_chunks-loop-chunk-preserved
push_chunks-loop-chunk-preserved t c = record {
  written = goes_on c.args.padded c.args.out.now.items c.loop-chunk.out.items c.push_chunk.new.out.items c.args.tree.now.items c.loop-chunk.tree.items c.push_chunk.new.tree.items c.args.ctx.now c.args.chunks.now c.loop-chunk.chunk-index c.chunk-item.result c.loop-chunk-test.true c.chunk-item.is c.in_ok-push_chunk.ensures.written c.loop-chunk.invariant.written;
  refused = carries_on c.args.ctx.now c.args.chunks.now c.loop-chunk.chunk-index c.chunk-item.result c.loop-chunk-test.true c.chunk-item.is c.in_ok-push_chunk.ensures.written.listed c.loop-chunk.invariant.refused;
}

pub push_chunks-returns-clause-written : goal.push_chunks-returns-clause-written
push_chunks-returns-clause-written t c =
    is_done c.args.padded c.args.out.now.items c.loop-chunk.out.items c.args.tree.now.items c.loop-chunk.tree.items c.args.ctx.now c.args.chunks.now c.loop-chunk.chunk-index c.loop-chunk-test.false c.loop-chunk.invariant.written
