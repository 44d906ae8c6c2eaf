-- What a decoder that answers as the reading does says of segments.
use Rattle.std.proofs.Common.{◌≡◌, ℕ, ◌^◌, ◌<◌, Bool, List, length, Some, None, Result, Ok, Err, IfOk, sym, ap, subst, ◌∙◌}
use Rattle.vx_model.specs.declared.encoding.EncodingId.{EncodingId}
use Rattle.vx_model.specs.Distinct.{first_repeat}
use Rattle.vx_model.specs.Ty.{Ty}
use Rattle.vx_model.specs.ChunkData.{ChunkData, piece_type}
use Rattle.vx_layout_spec.specs.Real.{Whole}
use Rattle.vx_segment_writer.specs.Segment.{encode}
use Rattle.vx_segment_reader.specs.declared.error.DecodeError.{DecodeError}
use Rattle.vx_segment_reader.specs.declared.error.DecodeError.TheVariants as errors
use Rattle.vx_segment_spec.specs.Reading.{Fault}
use Rattle.vx_segment_spec.specs.Segment.{decode}
use Rattle.vx_segment_spec.specs.Codec.{IsSegment}
use Rattle.vx_segment_reader.specs.Views.{Fails, Gives}
use Rattle.vx_byte_reader.proofs.FieldLaws.{IsBytes}
use Rattle.vx_segment_spec.proofs.SegmentLaws.{decode_takes, decode_again}

abbrev itself : ChunkData → ChunkData
itself p = p

pub is_found : (ctx : List EncodingId) (t : Ty) (bytes : List ℕ) (r : Result ChunkData DecodeError) → first_repeat ctx ≡ None → IsBytes bytes → Gives itself r (decode ctx t bytes) → IfOk r (λ p. IsSegment ctx p bytes × (piece_type p ≡ t))
is_found ctx t bytes (Ok p) distinct is_bytes gives = decode_takes ctx t bytes p distinct is_bytes gives
is_found ctx t bytes (Err e) distinct is_bytes gives = tt

pub is_only : (ctx : List EncodingId) (t : Ty) (bytes : List ℕ) (r : Result ChunkData DecodeError) → first_repeat ctx ≡ None → length bytes < 2 ^ 64 → Gives itself r (decode ctx t bytes)
    → (padding : Bool) (p : ChunkData) → Whole p → piece_type p ≡ t → encode ctx padding p ≡ Some bytes → Gives itself r (Ok p)
is_only ctx t bytes r distinct short gives padding p whole typed encoded =
    let again = decode_again ctx padding p bytes distinct whole short encoded in
    subst (Gives itself r) (sym (ap (λ (u : Ty). decode ctx u bytes) typed) ∙ again) gives
