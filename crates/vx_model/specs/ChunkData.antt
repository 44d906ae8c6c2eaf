-- Chunks: the seven encodings, the cells that each holds, its conditions and its held size.
use Rattle.std.specs.Prelude.{ℕ, zero, suc, ◌+◌, ◌-◌, ◌*◌, ◌^◌, ◌&&◌, ◌==◌, nat_lt, nat_le, Bool, true, false, not, if◌then◌else◌, List, [], ◌∷◌, ◌++◌, length, map, replicate, take, drop, pos}
use Rattle.vx_model.specs.declared.ptype.PType.{PType}
use Rattle.vx_model.specs.declared.ptype.PType.TheVariants.{U8, U16, U32, U64}
use Rattle.vx_model.specs.Words.{total_by, all_by, head_or, tail}
use Rattle.vx_model.specs.Ty.{Ty, Tys, primitive, utf8, binary, list, struct, extension, no_fields, field, nullable, ty_eq}
use Rattle.vx_model.specs.CellData.{CellData, null_cell, int_cell, list_cell, struct_cell, trees_of, fits, cell_size}
use Rattle.vx_model.specs.ValueData.{ValueData, value}

mutual
  pub data ChunkData : Type 0 where
    plain_piece : Ty → List CellData → ChunkData
    constant_piece : Ty → CellData → ℕ → ChunkData
    dict_piece : ChunkData → ChunkData → ChunkData
    chunked_piece : Ty → ChunkList → ChunkData
    list_piece : Ty → ChunkData → List ℕ → List Bool → ChunkData
    struct_piece : Ty → ChunkList → List Bool → ℕ → ChunkData
    extension_piece : Ty → ChunkData → ChunkData

  pub data ChunkList : Type 0 where
    no_pieces : ChunkList
    part : ChunkData → ChunkList → ChunkList

abbrev pub pieces_of : List ChunkData → ChunkList
pieces_of [] = no_pieces
pieces_of (p ∷ ps) = part p (pieces_of ps)

abbrev pub pieces_in : ChunkList → List ChunkData
pieces_in no_pieces = []
pieces_in (part p ps) = p ∷ pieces_in ps

-- a chunk's type; a dictionary has its values' type
abbrev pub piece_type : ChunkData → Ty
piece_type (plain_piece t cs) = t
piece_type (constant_piece t c n) = t
piece_type (dict_piece codes values) = piece_type values
piece_type (chunked_piece t ps) = t
piece_type (list_piece t e offsets valid) = t
piece_type (struct_piece t ps valid n) = t
piece_type (extension_piece t p) = t

-- ---- the cells that a chunk holds

-- the cell at a code, null past the end
abbrev pub cell_at : List CellData → ℕ → CellData
cell_at [] n = null_cell
cell_at (c ∷ cs) zero = c
cell_at (c ∷ cs) (suc n) = cell_at cs n

abbrev pub picked : List CellData → CellData → CellData
picked values (int_cell (pos n)) = cell_at values n
picked values c = null_cell

-- row i has the elements from offset i to offset i + 1
abbrev pub list_rows : List CellData → List ℕ → List Bool → List CellData
list_rows elements [] valid = []
list_rows elements (from ∷ []) valid = []
list_rows elements (from ∷ to ∷ offsets) valid =
    list_cell (head_or true valid) (trees_of (take (to - from) (drop from elements))) ∷ list_rows elements (to ∷ offsets) (tail valid)

-- row i has cell i of each field
abbrev pub struct_rows : ℕ → List (List CellData) → List Bool → List CellData
struct_rows zero columns valid = []
struct_rows (suc n) columns valid =
    struct_cell (head_or true valid) (trees_of (map (head_or null_cell) columns)) ∷ struct_rows n (map tail columns) (tail valid)

abbrev mutual
  pub cells : ChunkData → List CellData
  cells (plain_piece t cs) = cs
  cells (constant_piece t c n) = replicate n c
  cells (dict_piece codes values) = map (picked (cells values)) (cells codes)
  cells (chunked_piece t ps) = joined_cells ps
  cells (list_piece t e offsets valid) = list_rows (cells e) offsets valid
  cells (struct_piece t ps valid n) = struct_rows n (each_cells ps) valid
  cells (extension_piece t p) = cells p

  pub joined_cells : ChunkList → List CellData
  joined_cells no_pieces = []
  joined_cells (part p ps) = cells p ++ joined_cells ps

  pub each_cells : ChunkList → List (List CellData)
  each_cells no_pieces = []
  each_cells (part p ps) = cells p ∷ each_cells ps

-- the rows, masked
abbrev pub row_values : ChunkData → List ValueData
row_values p = map value (cells p)

-- ---- sizes, in bytes

-- the sum of the row sizes
abbrev pub row_size : ChunkData → ℕ
row_size p = total_by (cell_size (piece_type p)) (cells p)

-- one byte a row where the type is nullable
abbrev pub validity_size : Ty → ℕ → ℕ
validity_size t n = if nullable t then n else 0

-- what a chunk takes as it is held
abbrev mutual
  pub held : ChunkData → ℕ
  held (plain_piece t cs) = total_by (cell_size t) cs
  held (constant_piece t c n) = cell_size t c
  held (dict_piece codes values) = held codes + held values
  held (chunked_piece t ps) = held_parts ps
  held (list_piece t e offsets valid) = held e + 8 * length offsets + validity_size t (length offsets - 1)
  held (struct_piece t ps valid n) = held_parts ps + validity_size t n
  held (extension_piece t p) = held p

  pub held_parts : ChunkList → ℕ
  held_parts no_pieces = 0
  held_parts (part p ps) = held p + held_parts ps

-- ---- the constructors' conditions

abbrev pub is_simple : ChunkData → Bool
is_simple (plain_piece t cs) = true
is_simple (constant_piece t c n) = true
is_simple p = false

abbrev pub is_chunked : ChunkData → Bool
is_chunked (chunked_piece t ps) = true
is_chunked p = false

abbrev pub is_unsigned : PType → Bool
is_unsigned U8 = true
is_unsigned U16 = true
is_unsigned U32 = true
is_unsigned U64 = true
is_unsigned p = false

-- non-nullable and unsigned
abbrev pub is_code_type : Ty → Bool
is_code_type (primitive p n) = is_unsigned p && not n
is_code_type t = false

-- what a dictionary may hold: integers, texts and bytes
abbrev pub is_dict_type : Ty → Bool
is_dict_type (primitive p n) = true
is_dict_type (utf8 n) = true
is_dict_type (binary n) = true
is_dict_type t = false

-- the place of one of so many values
abbrev pub is_code : ℕ → CellData → Bool
is_code count (int_cell (pos n)) = nat_lt n count
is_code count c = false

-- offsets ascend and end within so many elements
abbrev pub are_offsets : ℕ → List ℕ → Bool
are_offsets count [] = false
are_offsets count (a ∷ []) = nat_le a count
are_offsets count (a ∷ b ∷ offsets) = nat_le a b && are_offsets count (b ∷ offsets)

-- a flag a row where the type is nullable, else none
abbrev pub are_flags : Ty → ℕ → List Bool → Bool
are_flags t n valid = length valid == validity_size t n

abbrev pub has_elements : Ty → Ty → Bool
has_elements (list t n) e = ty_eq t e
has_elements t e = false

abbrev pub has_storage : Ty → Ty → Bool
has_storage (extension tag t) s = ty_eq t s
has_storage t s = false

-- each part is a whole chunk of the type that isn't chunked
abbrev pub are_parts : Ty → List ChunkData → Bool
are_parts t = all_by (λ p. ty_eq (piece_type p) t && not (is_chunked p))

-- one chunk a field, with the field's type and so many rows
abbrev pub match_fields : Tys → List ChunkData → ℕ → Bool
match_fields no_fields [] n = true
match_fields no_fields (p ∷ ps) n = false
match_fields (field name t fs) [] n = false
match_fields (field name t fs) (p ∷ ps) n = ty_eq (piece_type p) t && ((length (cells p) == n) && match_fields fs ps n)

abbrev pub has_fields : Ty → List ChunkData → ℕ → Bool
has_fields (struct fs m) ps n = match_fields fs ps n
has_fields t ps n = false

-- whether the chunk meets the conditions of its constructors; rows fit 64 bits
abbrev mutual
  pub is_sound : ChunkData → Bool
  is_sound (plain_piece t cs) = all_by (fits t) cs && nat_lt (length cs) (2 ^ 64)
  is_sound (constant_piece t c n) = fits t c && nat_lt n (2 ^ 64)
  is_sound (dict_piece codes values) =
      (is_sound codes && is_sound values) && ((is_simple codes && is_simple values) && ((is_code_type (piece_type codes) && is_dict_type (piece_type values)) && all_by (is_code (length (cells values))) (cells codes)))
  is_sound (chunked_piece t ps) = are_sound ps && (are_parts t (pieces_in ps) && nat_lt (length (joined_cells ps)) (2 ^ 64))
  is_sound (list_piece t e offsets valid) =
      is_sound e && (has_elements t (piece_type e) && (are_offsets (length (cells e)) offsets && (nat_lt (length offsets) (2 ^ 64) && are_flags t (length offsets - 1) valid)))
  is_sound (struct_piece t ps valid n) =
      are_sound ps && (has_fields t (pieces_in ps) n && (nat_lt n (2 ^ 64) && are_flags t n valid))
  is_sound (extension_piece t p) = is_sound p && has_storage t (piece_type p)

  pub are_sound : ChunkList → Bool
  are_sound no_pieces = true
  are_sound (part p ps) = is_sound p && are_sound ps
