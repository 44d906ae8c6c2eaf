-- Why a list of encodings is no context.
use Rattle.std.specs.Prelude.{◌≡◌, List, Some}
use Rattle.vx_model.specs.declared.encoding.EncodingId.{EncodingId}
use Rattle.vx_model.specs.declared.array_context.ContextError.{ContextError}
use Rattle.vx_model.specs.declared.array_context.ContextError.TheVariants.{RepeatedEncoding}
use Rattle.vx_model.specs.Distinct.{first_repeat}

-- the error names the first encoding that is listed again
abbrev pub NamesRepeat : List EncodingId → ContextError → Type 0
NamesRepeat es (RepeatedEncoding e) = first_repeat es ≡ Some e
