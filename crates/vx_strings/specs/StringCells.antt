-- Texts and bytes as cells.
use Rattle.std.specs.Prelude.{◌≡◌, ℕ, ◌-◌, Bool, true, false, List, [], ◌∷◌, length, take, drop}
use Rattle.std.specs.Str.{is_utf8}
use Rattle.vx_model.specs.Words.{all_by}
use Rattle.vx_model.specs.Ty.{Ty, utf8, binary}
use Rattle.vx_model.specs.CellData.{CellData, null_cell, text_cell, bytes_cell}
use Rattle.vx_model.specs.ChunkData.{are_offsets}
use Rattle.vx_chunk_cells.specs.Window.{last_of}
use Rattle.vx_strings.specs.declared.kind.StringKind.{StringKind}
use Rattle.vx_strings.specs.declared.kind.StringKind.TheVariants.{Utf8, Binary}

abbrev pub string_cell : StringKind → List ℕ → CellData
string_cell Utf8 s = text_cell s
string_cell Binary s = bytes_cell s

-- the type of such cells, nullable or not
abbrev pub string_type : StringKind → Bool → Ty
string_type Utf8 n = utf8 n
string_type Binary n = binary n

-- texts are UTF-8; bytes are any
abbrev pub may_be : StringKind → List ℕ → Bool
may_be Utf8 s = is_utf8 s
may_be Binary s = true

-- the bytes of a text, or of bytes
abbrev pub string_length : CellData → ℕ
string_length (text_cell s) = length s
string_length (bytes_cell s) = length s
string_length c = 0

-- null, a text or bytes
abbrev pub is_string : CellData → Bool
is_string null_cell = true
is_string (text_cell s) = true
is_string (bytes_cell s) = true
is_string c = false

-- the bytes from each offset to the next
abbrev pub strings_between : List ℕ → List ℕ → List (List ℕ)
strings_between bytes [] = []
strings_between bytes (from ∷ []) = []
strings_between bytes (from ∷ to ∷ offsets) = take (to - from) (drop from bytes) ∷ strings_between bytes (to ∷ offsets)

-- offsets ascend and end within the bytes, and the strings between are of the kind
pub record AreStrings (kind : StringKind) (bytes offsets : List ℕ) : Type 0 where
  pub ascend : are_offsets (length bytes) offsets ≡ true
  pub strings : all_by (may_be kind) (strings_between bytes offsets) ≡ true

-- the same, where the last string ends with the bytes, so that one more can follow
pub record Grown (kind : StringKind) (bytes offsets : List ℕ) : Type 0 where
  pub are : AreStrings kind bytes offsets
  pub ended : last_of offsets ≡ length bytes
