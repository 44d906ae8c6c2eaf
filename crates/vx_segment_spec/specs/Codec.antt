-- Segments as the codec that layouts are read by.
use Rattle.std.specs.Prelude.{◌≡◌, ℕ, Bool, List, Option, Some, None, Result, Ok, Err}
use Rattle.vx_model.specs.declared.encoding.EncodingId.{EncodingId}
use Rattle.vx_model.specs.CellData.{CellData}
use Rattle.vx_model.specs.ChunkData.{ChunkData, cells}
use Rattle.vx_segment_writer.specs.Segment.{encode, refused, tree_bytes}
use Rattle.vx_layout_spec.specs.Codec.{Codec}
use Rattle.vx_segment_spec.specs.Reading.{Fault}
use Rattle.vx_segment_spec.specs.Segment.{decode}

-- the bytes are the chunk's segment, padded or not
abbrev pub IsSegment : List EncodingId → ChunkData → List ℕ → Type 0
IsSegment ctx p bytes = (padded : Bool) × (encode ctx padded p ≡ Some bytes)

abbrev pub cells_read : Result ChunkData Fault → Option (List CellData)
cells_read (Ok p) = Some (cells p)
cells_read (Err f) = None

abbrev pub segment_codec : Codec
segment_codec = record {
  encode = encode;
  tree_part = tree_bytes;
  refused = refused;
  decode = λ ctx t bytes. cells_read (decode ctx t bytes);
}
