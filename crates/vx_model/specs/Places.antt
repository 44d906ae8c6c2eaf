-- The place of an encoding in a context.
use Rattle.std.specs.Prelude.{ℕ, suc, if◌then◌else◌, Option, Some, None, List, [], ◌∷◌}
use Rattle.vx_model.specs.declared.encoding.EncodingId.{EncodingId}
use Rattle.vx_model.specs.Numbers.{encoding_eq}
use Rattle.vx_model.specs.Distinct.{is_listed}

-- the place of the first that is listed, or how many there are
abbrev pub place_of : EncodingId → List EncodingId → ℕ
place_of e [] = 0
place_of e (d ∷ ds) = if encoding_eq d e then 0 else suc (place_of e ds)

-- its place, where it is listed
abbrev pub listed_place : EncodingId → List EncodingId → Option ℕ
listed_place e ctx = if is_listed e ctx then Some (place_of e ctx) else None
