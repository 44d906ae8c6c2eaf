-- What was written as a segment.
use Rattle.std.specs.Prelude.{◌≡◌, ℕ, Bool, List, Some}
use Rattle.vx_model.specs.declared.encoding.EncodingId.{EncodingId}
use Rattle.vx_model.specs.ChunkData.{ChunkData}
use Rattle.vx_segment_writer.specs.Segment.{encode}

-- some chunk has this segment
pub record IsEncoded (bytes : List ℕ) : Type 0 where
  pub encodings : List EncodingId
  pub padded : Bool
  pub chunk : ChunkData
  pub encoded : encode encodings padded chunk ≡ Some bytes
