-- When parts make a chunk of an encoding, and why they don't.
use Rattle.std.specs.Prelude.{◌≡◌, ℕ, ◌-◌, ◌^◌, ◌≤◌, ◌&&◌, Bool, List, length, min}
use Rattle.vx_model.specs.Words.{all_by}
use Rattle.vx_model.specs.Ty.{Ty, ty_eq}
use Rattle.vx_model.specs.ChunkData.{ChunkData, piece_type, cells, is_simple, is_code_type, is_dict_type, is_code, are_offsets, are_flags, has_elements, has_fields}
use Rattle.vx_chunk.specs.declared.error.ChunkError.{ChunkError}
use Rattle.vx_chunk.specs.declared.error.ChunkError.TheVariants.{TooLarge, OutOfMemory}

-- codes are plain or constant, non-nullable, unsigned and below the number of values, which are plain or constant
abbrev pub makes_dict : ChunkData → ChunkData → Bool
makes_dict codes values =
    (is_simple codes && is_simple values) && ((is_code_type (piece_type codes) && is_dict_type (piece_type values)) && all_by (is_code (length (cells values))) (cells codes))

-- a list type, its elements, ascending offsets, and a flag a row where the type is nullable
abbrev pub makes_list : Ty → ChunkData → List ℕ → List Bool → Bool
makes_list t e offsets valid = has_elements t (piece_type e) && (are_offsets (length (cells e)) offsets && are_flags t (length offsets - 1) valid)

-- a struct type, a chunk of so many rows a field, and a flag a row where the type is nullable
abbrev pub makes_struct : Ty → List ChunkData → List Bool → ℕ → Bool
makes_struct t ps valid n = has_fields t ps n && are_flags t n valid

-- chunks of the type
abbrev pub are_of_type : Ty → List ChunkData → Bool
are_of_type t = all_by (λ p. ty_eq (piece_type p) t)

-- refused since the number is above the greatest u64, and for nothing else
abbrev pub IsPast : ℕ → ChunkError → Type 0
IsPast n (TooLarge m) = (2 ^ 64 ≤ n) × (m ≡ n)
IsPast n OutOfMemory = ⊥

-- the same, where memory may run out
abbrev pub IsTooLarge : ℕ → ChunkError → Type 0
IsTooLarge n (TooLarge m) = (2 ^ 64 ≤ n) × (m ≡ n)
IsTooLarge n OutOfMemory = Unit {0}

-- refused since the number is above the greatest u64, and for nothing else; one above the greatest u128 is told as that
abbrev pub IsFarPast : ℕ → ChunkError → Type 0
IsFarPast n (TooLarge m) = (2 ^ 64 ≤ n) × (m ≡ min n (2 ^ 128 - 1))
IsFarPast n OutOfMemory = ⊥
