-- What a filter's stored value is, and what reading it answers.
use Rattle.std.specs.Prelude.{◌≡◌, ◌≢◌, ℕ, ◌/◌, Bool, true, false, if◌then◌else◌, List, [], length, Option, Some, None, Result, Ok, Err}
use Rattle.vx_model.specs.Ty.{Ty, binary, has_order}
use Rattle.vx_model.specs.ValueData.{ValueData, null_value, bytes_value}
use Rattle.vx_bloom.specs.declared.partial.PartialError.{PartialError}
use Rattle.vx_bloom.specs.declared.partial.PartialError.TheVariants.{Length, BlockCount, OutOfMemory}
use Rattle.vx_bloom_spec.specs.Blocks.{Block}
use Rattle.vx_bloom_spec.specs.Bytes.{filter_bytes, AreBlocks, IsFilterLength}
use Rattle.vx_bloom_spec.specs.Filter.{filter_of}

-- the type of a column's filter as a value: nullable bytes, for each type whose values are hashed
abbrev pub filter_type : Ty → Option Ty
filter_type t = if has_order t then Some (binary true) else None

abbrev pub is_stored : ValueData → Bool
is_stored null_value = true
is_stored (bytes_value b) = true
is_stored v = false

-- null stands for the empty filter
abbrev pub ReadsNull : ℕ → Result (List Block) PartialError → Type 0
ReadsNull blocks (Ok p) = p ≡ filter_of blocks []
ReadsNull blocks (Err Length) = ⊥
ReadsNull blocks (Err BlockCount) = ⊥
ReadsNull blocks (Err OutOfMemory) = Unit {0}

-- bytes are those of a filter of so many blocks
abbrev pub ReadsBytes : ℕ → List ℕ → Result (List Block) PartialError → Type 0
ReadsBytes blocks bytes (Ok p) = (filter_bytes p ≡ bytes) × AreBlocks p × (length p ≡ blocks)
ReadsBytes blocks bytes (Err Length) = ¬ IsFilterLength (length bytes)
ReadsBytes blocks bytes (Err BlockCount) = IsFilterLength (length bytes) × (length bytes / 32 ≢ blocks)
ReadsBytes blocks bytes (Err OutOfMemory) = IsFilterLength (length bytes)

abbrev pub ReadsStored : ℕ → ValueData → Result (List Block) PartialError → Type 0
ReadsStored blocks null_value r = ReadsNull blocks r
ReadsStored blocks (bytes_value bytes) r = ReadsBytes blocks bytes r
ReadsStored blocks v r = ⊥
