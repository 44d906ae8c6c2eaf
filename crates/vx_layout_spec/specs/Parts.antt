-- Lists, structs and chunks taken apart.
use Rattle.std.specs.Prelude.{ℕ, ◌+◌, Bool, true, false, List, [], ◌∷◌, ◌++◌, length, map}
use Rattle.vx_model.specs.Ty.{Tys, boolean, no_fields, field}
use Rattle.vx_model.specs.CellData.{CellData, null_cell, bool_cell, list_cell, struct_cell, cell, items}
use Rattle.vx_model.specs.ChunkData.{ChunkData, chunked_piece, struct_piece, plain_piece, pieces_in, cells}

-- ---- lists

-- whether a struct or a list is valid
abbrev pub flag_of : CellData → Bool
flag_of (list_cell valid cs) = valid
flag_of (struct_cell valid cs) = valid
flag_of c = true

abbrev pub elements_of : CellData → List CellData
elements_of (list_cell valid cs) = items cs
elements_of c = []

abbrev pub all_elements : List CellData → List CellData
all_elements [] = []
all_elements (c ∷ cs) = elements_of c ++ all_elements cs

-- where each list ends, `from` elements standing before the first
abbrev pub ends : ℕ → List CellData → List ℕ
ends from [] = []
ends from (c ∷ cs) = (from + length (elements_of c)) ∷ ends (from + length (elements_of c)) cs

-- ---- structs

-- one Bool a row
abbrev pub validity_piece : ChunkData → ChunkData
validity_piece p = plain_piece (boolean false) (map bool_cell (map flag_of (cells p)))

-- a struct's first field, whether the struct is valid or not, and the struct without it
abbrev pub first_of : CellData → CellData
first_of (struct_cell valid (cell c cs)) = c
first_of c = null_cell

abbrev pub others_of : CellData → CellData
others_of (struct_cell valid (cell c cs)) = struct_cell valid cs
others_of c = c

abbrev pub plain_fields : Tys → List CellData → List ChunkData
plain_fields no_fields cs = []
plain_fields (field name t fs) cs = plain_piece t (map first_of cs) ∷ plain_fields fs (map others_of cs)

-- the fields, unmasked: the chunk's own where it keeps them, else plain
abbrev pub field_pieces : Tys → ChunkData → List ChunkData
field_pieces fs (struct_piece t ps valid n) = pieces_in ps
field_pieces fs p = plain_fields fs (cells p)

-- ---- chunked chunks

-- the parts of a chunked chunk stand for it
abbrev pub parts_of : ChunkData → List ChunkData
parts_of (chunked_piece t ps) = pieces_in ps
parts_of p = p ∷ []

abbrev pub all_parts : List ChunkData → List ChunkData
all_parts [] = []
all_parts (p ∷ ps) = parts_of p ++ all_parts ps
