-- Why a chunk isn't encoded.
use Rattle.std.specs.Prelude.{◌≡◌, Option, Some}
use Rattle.vx_model.specs.declared.encoding.EncodingId.{EncodingId}
use Rattle.vx_segment_writer.specs.declared.error.EncodeError.{EncodeError}
use Rattle.vx_segment_writer.specs.declared.error.EncodeError.TheVariants.{EncodingNotListed, OutOfMemory}

-- the refusal's cause: the first encoding that isn't listed; memory may run out
abbrev pub HasEncodeCause : Option EncodingId → EncodeError → Type 0
HasEncodeCause first (EncodingNotListed e) = first ≡ Some e
HasEncodeCause first OutOfMemory = Unit {0}
