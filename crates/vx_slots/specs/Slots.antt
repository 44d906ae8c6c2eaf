-- Slots over a list of cells, by which the place of each is found.
use Rattle.std.specs.Prelude.{◌≡◌, ℕ, zero, suc, ◌*◌, ◌%◌, ◌/◌, ◌^◌, ◌<◌, ◌≤◌, if◌then◌else◌, List, [], ◌∷◌, length, drop, slice_index, ℤ, Option, Some, None, bit_and, bit_xor}
use Rattle.std.specs.Int.{w128, cast_unsigned}
use Rattle.std.specs.Coded.{Coded, code_by}
use denote.Struct.Codes.{itself}
use base.Stored.{Gv}
use Rattle.vx_hash.specs.XxHash3.{xxhash3_64}
use Rattle.vx_model.specs.CellData.{CellData, int_cell, text_cell, bytes_cell}
use Rattle.vx_model.specs.ChunkData.{cell_at}
use Rattle.vx_typed.specs.CellCode.{cells_code, cells_of, cells_back}
use Rattle.vx_rules.specs.Runs.{same_cell, has_cell, place_in}

abbrev pub listed_code : Coded (List CellData)
listed_code = code_by Gv itself cells_code cells_of cells_back

-- the place of the first cell that is the same
abbrev pub known_place : CellData → List CellData → Option ℕ
known_place c ds = if has_cell c ds then Some (place_in c ds) else None

-- ---- hashes

-- the high half of the product is folded into the low one
abbrev pub folded : ℕ → ℕ
folded product = bit_xor product (product / 2 ^ 32)

unfoldable pub int_hash : ℤ → ℕ
int_hash n = folded (((cast_unsigned w128 n % 2 ^ 64) * 0x9e3779b97f4a7c15) % 2 ^ 64)

-- of cells that dictionaries don't hold it is 0
abbrev pub cell_hash : CellData → ℕ
cell_hash (int_cell n) = int_hash n
cell_hash (text_cell s) = xxhash3_64 s
cell_hash (bytes_cell s) = xxhash3_64 s
cell_hash c = 0

-- where a walk for the cell begins
abbrev pub first_slot : ℕ → CellData → ℕ
first_slot mask c = bit_and (cell_hash c) mask

-- ---- walks

-- what a walk for the cell finds in the slots from its first one on
abbrev pub looked : List CellData → CellData → List ℕ → Option ℕ
looked ds c [] = None
looked ds c (zero ∷ slots) = None
looked ds c (suc p ∷ slots) = if same_cell (cell_at ds p) c then Some p else looked ds c slots

-- how many slots have a place
abbrev pub taken : List ℕ → ℕ
taken [] = 0
taken (zero ∷ slots) = taken slots
taken (suc p ∷ slots) = suc (taken slots)

-- each slot is empty or has one of so many places
abbrev pub AreWithin : ℕ → List ℕ → Type 0
AreWithin n slots = (i : ℕ) → slice_index slots i ≤ n

-- the first empty slot from one on
pub record IsFree (from : ℕ) (slots : List ℕ) (at : ℕ) : Type 0 where
  pub behind : from ≤ at
  pub within : at < length slots
  pub empty : slice_index slots at ≡ 0
  pub before : (j : ℕ) → from ≤ j → j < at → 0 < slice_index slots j

-- A walk for any cell finds the first one that is the same, or none where there is none.
pub record Kept (ds : List CellData) (mask : ℕ) (slots : List ℕ) : Type 0 where
  pub within : AreWithin (length ds) slots
  pub found : (c : CellData) → looked ds c (drop (first_slot mask c) slots) ≡ known_place c ds
  pub few : taken slots ≤ length ds
  pub masked : mask ≤ length slots
