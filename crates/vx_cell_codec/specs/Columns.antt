-- Offsets and flags, one after the other.
use Rattle.std.specs.Prelude.{◌≡◌, ℕ, suc, ◌^◌, ◌<◌, ◌&&◌, ◌==◌, nat_le, Bool, true, if◌then◌else◌, List, [], ◌∷◌, length, map, Option, Some, None, IsTrue}
use Rattle.std.specs.List.{AllByRecursion}
use Rattle.vx_model.specs.Words.{joined_by}
use Rattle.vx_model.specs.CellData.{bit, u64_bytes}
use Rattle.vx_byte_reader.specs.Fields.{◌>>=◌, flag_at, many_at}
use Rattle.vx_cell_codec.specs.Reading.{number_at}

-- none is below the one before it
abbrev pub ascend : List ℕ → Bool
ascend [] = true
ascend (a ∷ []) = true
ascend (a ∷ b ∷ os) = nat_le a b && ascend (b ∷ os)

-- one offset more than rows, ascending, and nothing behind them
unfoldable pub offsets_at : ℕ → List ℕ → Option (List ℕ)
offsets_at rows bytes = do
  offsets ← many_at number_at (suc rows) bytes
  if (length offsets.1 == 0) && ascend offsets.0 then Some offsets.0 else None

-- a flag a row, and nothing behind them
unfoldable pub flags_at : ℕ → List ℕ → Option (List Bool)
flags_at rows bytes = do
  flags ← many_at flag_at rows bytes
  if length flags.1 == 0 then Some flags.0 else None

-- the bytes are the offsets of so many rows
pub record AreOffsets (rows : ℕ) (bytes os : List ℕ) : Type 0 where
  pub spelled : bytes ≡ joined_by u64_bytes os
  pub count : length os ≡ suc rows
  pub ascending : IsTrue (ascend os)
  pub small : AllByRecursion (λ n. n < 2 ^ 64) os

-- the bytes are the flags of so many rows
pub record AreFlags (rows : ℕ) (bytes : List ℕ) (bs : List Bool) : Type 0 where
  pub spelled : bytes ≡ map bit bs
  pub count : length bs ≡ rows
