-- Why a splitter refuses; memory may run out.
use Rattle.std.specs.Prelude.{◌≡◌, ℕ, ◌-◌, ◌^◌, ◌≤◌, min, true, false, Some}
use Rattle.vx_model.specs.Ty.{Ty, is_struct}
use Rattle.vx_strategy_spec.specs.Walk.{duplicate}
use Rattle.vx_chunk_cells.specs.Parts.{struct_fields}
use Rattle.vx_chunk.specs.declared.error.ChunkError.{ChunkError}
use Rattle.vx_chunk.specs.declared.error.ChunkError.TheVariants as chunks
use Rattle.vx_split.specs.declared.error.SplitError.{SplitError}
use Rattle.vx_split.specs.declared.error.SplitError.TheVariants.{NotStruct, DuplicateField, TooLarge, OutOfMemory}

-- a chunk's refusal
abbrev pub of_chunk : ChunkError → SplitError
of_chunk (chunks.TooLarge n) = TooLarge n
of_chunk chunks.OutOfMemory = OutOfMemory

-- the type isn't a struct, or else the first name that equals one before it is told; no other type asks for memory
abbrev pub IsRefused : Ty → SplitError → Type 0
IsRefused t NotStruct = is_struct t ≡ false
IsRefused t (DuplicateField name) = (is_struct t ≡ true) × (duplicate (struct_fields t) ≡ Some name)
IsRefused t (TooLarge n) = ⊥
IsRefused t OutOfMemory = is_struct t ≡ true

-- so many elements are more than the greatest u64; more than the greatest u128 are told as that
abbrev pub IsPast : ℕ → SplitError → Type 0
IsPast n NotStruct = ⊥
IsPast n (DuplicateField name) = ⊥
IsPast n (TooLarge m) = (2 ^ 64 ≤ n) × (m ≡ min n (2 ^ 128 - 1))
IsPast n OutOfMemory = Unit {0}

-- a number that is told is this one
abbrev pub Tells : ℕ → SplitError → Type 0
Tells n NotStruct = ⊥
Tells n (DuplicateField name) = ⊥
Tells n (TooLarge m) = m ≡ n
Tells n OutOfMemory = Unit {0}
