-- The columns of a struct or a list chunk.
use Rattle.std.specs.Prelude.{◌&&◌, Bool, true, false, List, [], ◌∷◌, length}
use Rattle.vx_model.specs.Words.{all_by}
use Rattle.vx_model.specs.Ty.{Tys, no_fields, field}
use Rattle.vx_model.specs.CellData.{CellData, fits}
use Rattle.vx_model.specs.ChunkData.{ChunkData, plain_piece, list_piece, extension_piece, cells}
use Rattle.vx_chunk_cells.specs.Parts.{cover}

-- a plain chunk a field
abbrev pub typed_columns : Tys → List (List CellData) → List ChunkData
typed_columns no_fields columns = []
typed_columns (field name t fs) [] = []
typed_columns (field name t fs) (c ∷ columns) = plain_piece t c ∷ typed_columns fs columns

-- a column a field, with the field's cells
abbrev pub columns_fit : Tys → List (List CellData) → Bool
columns_fit no_fields [] = true
columns_fit no_fields (c ∷ columns) = false
columns_fit (field name t fs) [] = false
columns_fit (field name t fs) (c ∷ columns) = all_by (fits t) c && columns_fit fs columns

-- the rows are held as cells: the chunk is plain, or an extension over such a chunk
abbrev pub keeps_cells : ChunkData → Bool
keeps_cells (plain_piece t cs) = true
keeps_cells (extension_piece t p) = keeps_cells p
keeps_cells p = false

abbrev pub is_plain : ChunkData → Bool
is_plain (plain_piece t cs) = true
is_plain p = false

-- the elements are plain, and just those of the rows, in their places
abbrev pub keeps_elements : ChunkData → Bool
keeps_elements (list_piece t e os valid) = is_plain e && cover (length (cells e)) os
keeps_elements p = false
