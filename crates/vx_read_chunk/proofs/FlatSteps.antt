-- Steps of reading a segment.
use Rattle.std.proofs.Common.{◌≡◌, ℕ, List, [], ◌∷◌, length, Option, Some, Ok, ◌∙◌}
use Rattle.std.proofs.lemmas.List.{length-map}
use Rattle.vx_model.specs.declared.encoding.EncodingId.{EncodingId}
use Rattle.vx_model.specs.Ty.{Ty}
use Rattle.vx_model.specs.ValueData.{value}
use Rattle.vx_model.specs.ChunkData.{ChunkData, cells, row_values}
use Rattle.vx_layout_spec.specs.Rows.{and_then, counted, flat_rows}
use Rattle.vx_segment_reader.specs.Codec.{segment_codec}
use Rattle.vx_segment_reader.specs.Segment.{decode as segment_of}
use Rattle.vx_read.proofs.FaultLaws.{counted_whole}

pub whole_segment : (look : ℕ → Option (List ℕ)) (encodings : List EncodingId) (t : Ty) (n name : ℕ) (names bytes : List ℕ) (p : ChunkData) → names ≡ name ∷ [] → look name ≡ Some bytes
    → segment_of encodings t bytes ≡ Ok p → length (cells p) ≡ n → and_then (counted n) (flat_rows segment_codec look encodings t names) ≡ Some (row_values p)
whole_segment look encodings t n name names bytes p one there read count = rw (one, there, read) (counted_whole n (row_values p) (length-map (cells p) value ∙ count))

pub ruleset flat_rules = (whole_segment)
