-- The segment of the integers 1 and 2, with a flag, an index and a number of rows to choose.
use Rattle.std.specs.Prelude.{ℕ, false, List, [], ◌∷◌, Result, pos}
use Rattle.vx_model.specs.declared.encoding.EncodingId.{EncodingId}
use Rattle.vx_model.specs.declared.encoding.EncodingId.TheVariants.{Plain, Constant}
use Rattle.vx_model.specs.declared.ptype.PType.TheVariants.{I64}
use Rattle.vx_model.specs.Ty.{primitive}
use Rattle.vx_model.specs.CellData.{int_cell}
use Rattle.vx_model.specs.ChunkData.{ChunkData, plain_piece}
use Rattle.vx_segment_spec.specs.Reading.{Fault}
use Rattle.vx_segment_spec.specs.Segment.{decode}

abbrev pub two_encodings : List EncodingId
two_encodings = Plain ∷ Constant ∷ []

abbrev pub one_and_two : ℕ → ℕ → ℕ → List ℕ
one_and_two flag index rows =
    1 ∷ 0 ∷ 0 ∷ 0 ∷ 0 ∷ 0 ∷ 0 ∷ 0 ∷ 2 ∷ 0 ∷ 0 ∷ 0 ∷ 0 ∷ 0 ∷ 0 ∷ 0 ∷ flag ∷ index ∷ 0 ∷ rows ∷ 0 ∷ 0 ∷ 0 ∷ 0 ∷ 0 ∷ 0 ∷ 0 ∷ 0 ∷ 1 ∷ 16 ∷ 0 ∷ 0 ∷ 0 ∷ 0 ∷ 0 ∷ 0 ∷ 0 ∷ 0 ∷ 0 ∷ 0 ∷ 0 ∷ 0 ∷ 0 ∷ 0 ∷ 0 ∷ 29 ∷ 0 ∷ 0 ∷ 0 ∷ 0 ∷ 0 ∷ 0 ∷ 0 ∷ []

-- read as integers of 64 bits without null
abbrev pub as_integers : List ℕ → Result ChunkData Fault
as_integers bytes = decode two_encodings (primitive I64 false) bytes

abbrev pub integers : ChunkData
integers = plain_piece (primitive I64 false) (int_cell (pos 1) ∷ int_cell (pos 2) ∷ [])
