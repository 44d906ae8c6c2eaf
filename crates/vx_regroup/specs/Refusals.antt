-- Which number is refused, and how it is told.
use Rattle.std.specs.Prelude.{◌≡◌, ℕ, ◌-◌, ◌^◌, min, nat_lt, if◌then◌else◌, List, [], ◌∷◌, Option, Some, None}
use Rattle.vx_chunk.specs.declared.error.ChunkError.{ChunkError}
use Rattle.vx_chunk.specs.declared.error.ChunkError.TheVariants.{TooLarge, OutOfMemory}

-- the first number that is above the greatest u64
abbrev pub first_past : List ℕ → Option ℕ
first_past [] = None
first_past (n ∷ ns) = if nat_lt n (2 ^ 64) then first_past ns else Some n

-- told as it is, but one above the greatest u128 as that
abbrev pub IsTold : Option ℕ → ℕ → Type 0
IsTold None m = ⊥
IsTold (Some n) m = m ≡ min n (2 ^ 128 - 1)

-- refused for that number and for no other, or for want of memory
abbrev pub Refuses : Option ℕ → ChunkError → Type 0
Refuses past (TooLarge m) = IsTold past m
Refuses past OutOfMemory = Unit {0}
