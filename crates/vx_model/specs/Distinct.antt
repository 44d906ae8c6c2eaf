-- The first encoding of a list that equals one before it.
use Rattle.std.specs.Prelude.{◌||◌, Bool, false, if◌then◌else◌, List, [], ◌∷◌, ◌++◌, Option, Some, None}
use Rattle.vx_model.specs.declared.encoding.EncodingId.{EncodingId}
use Rattle.vx_model.specs.Numbers.{encoding_eq}

abbrev pub is_listed : EncodingId → List EncodingId → Bool
is_listed e [] = false
is_listed e (d ∷ ds) = encoding_eq d e || is_listed e ds

-- the first that equals one before it, where those of `before` stand in front
abbrev pub repeat_after : List EncodingId → List EncodingId → Option EncodingId
repeat_after before [] = None
repeat_after before (e ∷ es) = if is_listed e before then Some e else repeat_after (before ++ e ∷ []) es

abbrev pub first_repeat : List EncodingId → Option EncodingId
first_repeat es = repeat_after [] es
