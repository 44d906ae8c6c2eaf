-- The encodings that a file may use, all of them.
use Rattle.std.specs.Prelude.{List, [], ◌∷◌}
use Rattle.vx_model.specs.declared.encoding.EncodingId.{EncodingId}
use Rattle.vx_model.specs.declared.encoding.EncodingId.TheVariants as encodings

-- in their default order
abbrev pub all_encodings : List EncodingId
all_encodings = encodings.Plain ∷ encodings.Constant ∷ encodings.Dict ∷ encodings.Chunked ∷ encodings.List ∷ encodings.Struct ∷ encodings.Extension ∷ []
