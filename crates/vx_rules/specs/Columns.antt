-- The columns of chunks of structs and of lists.
use Rattle.std.specs.Prelude.{ℕ, suc, ◌+◌, Bool, true, false, if◌then◌else◌, List, [], ◌∷◌, ◌++◌, length, map, pos}
use Rattle.vx_model.specs.declared.ptype.PType.TheVariants.{U64}
use Rattle.vx_model.specs.Ty.{Ty, Tys, boolean, primitive, no_fields, field}
use Rattle.vx_model.specs.Words.{tail}
use Rattle.vx_model.specs.CellData.{CellData, CellList, null_cell, bool_cell, int_cell, list_cell, struct_cell, no_cells, cell, items}
use Rattle.vx_model.specs.ChunkData.{ChunkData, ChunkList, struct_piece, plain_piece, pieces_in, cells}
use Rattle.vx_path.specs.Path.{under}
use Rattle.vx_rules.specs.Stream.{Chunk}
use Rattle.vx_layout_spec.specs.Parts.{all_elements, ends, validity_piece, field_pieces}

-- ---- structs

-- validity where the type is nullable, then the fields
abbrev pub struct_columns : Tys → Bool → ChunkData → List ChunkData
struct_columns fs n p = if n then validity_piece p ∷ field_pieces fs p else field_pieces fs p

-- ---- lists

-- one entry more for the first chunk
abbrev pub offset_entries : Bool → ℕ → List CellData → List ℕ
offset_entries first from cs = if first then from ∷ ends from cs else ends from cs

abbrev pub offset_cell : ℕ → CellData
offset_cell n = int_cell (pos n)

abbrev pub offset_type : Ty
offset_type = primitive U64 false

-- elements, offsets, and validity where the type is nullable
abbrev pub list_columns : Ty → Bool → Bool → ℕ → ChunkData → List ChunkData
list_columns t n first from p =
    plain_piece t (all_elements (cells p)) ∷ plain_piece offset_type (map offset_cell (offset_entries first from (cells p))) ∷
    (if n then validity_piece p ∷ [] else [])

-- ---- streams of columns

-- a chunk's path and its columns
abbrev pub Split : Type 0
Split = List ℕ × List ChunkData

abbrev pub struct_splits : Tys → Bool → List Chunk → List Split
struct_splits fs n [] = []
struct_splits fs n (c ∷ cs) = (c.0, struct_columns fs n c.1) ∷ struct_splits fs n cs

-- offsets run on over all chunks
abbrev pub list_splits : Ty → Bool → Bool → ℕ → List Chunk → List Split
list_splits t n first from [] = []
list_splits t n first from (c ∷ cs) = (c.0, list_columns t n first from c.1) ∷ list_splits t n false (from + length (all_elements (cells c.1))) cs

abbrev pub head_piece : List ChunkData → ChunkData
head_piece [] = plain_piece (boolean false) []
head_piece (p ∷ ps) = p

-- the stream of the first column, whose number is c
abbrev pub column : ℕ → List Split → List Chunk
column c [] = []
column c (x ∷ xs) = (under x.0 c, head_piece x.1) ∷ column c xs

-- the columns behind it
abbrev pub other_columns : List Split → List Split
other_columns [] = []
other_columns (x ∷ xs) = (x.0, tail x.1) ∷ other_columns xs
