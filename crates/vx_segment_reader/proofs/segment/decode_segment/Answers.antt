use Rattle.std.proofs.Common.{◌≡◌, arith, ap, subst, sym, List}
use Rattle.vx_model.specs.declared.encoding.EncodingId.{EncodingId}
use Rattle.vx_model.specs.TyView.{ty}
use Rattle.vx_model.specs.ChunkData.{ChunkData}
use Rattle.vx_segment_spec.specs.Segment.{decode}
use Rattle.vx_segment_reader.specs.Views.{Gives}
use Rattle.vx_segment_reader.proofs.Answering.{is_found, is_only}
use Rattle.vx_segment_reader.proofs.segment.decode_segment.Goals as goal

pub returns-clause-found : goal.returns-clause-found
returns-clause-found c =
    is_found c.args.ctx.now (ty c.args.dtype.now) c.args.bytes.now c.read_chunk.result c.ids.ensures.distinct (λ i. omega (arith, c.type_inv.bytes i)) (subst (λ (es : List EncodingId). Gives (λ (p : ChunkData). p) c.read_chunk.result (decode es (ty c.args.dtype.now) c.args.bytes.now)) c.ids.ensures.ids c.read_chunk.ensures.exact)

pub returns-clause-only : goal.returns-clause-only
returns-clause-only c =
    is_only c.args.ctx.now (ty c.args.dtype.now) c.args.bytes.now c.read_chunk.result c.ids.ensures.distinct c.read_chunk.ensures.in_memory (subst (λ (es : List EncodingId). Gives (λ (p : ChunkData). p) c.read_chunk.result (decode es (ty c.args.dtype.now) c.args.bytes.now)) c.ids.ensures.ids c.read_chunk.ensures.exact)
