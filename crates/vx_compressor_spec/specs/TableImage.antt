-- The images that the table compressor makes of a chunk.
use Rattle.std.specs.Prelude.{ℕ, ◌*◌, ◌^◌, ◌==◌, ◌&&◌, nat_le, bytes_eq, Bool, true, false, if◌then◌else◌, List, [], ◌∷◌, length, map}
use Rattle.std.specs.Ordering.{int_eq}
use mathlib.Core.Bool.{beq}
use Rattle.vx_model.specs.declared.ptype.PType.{PType}
use Rattle.vx_model.specs.declared.ptype.PType.TheVariants.{U8, U16, U32, U64}
use Rattle.vx_model.specs.Words.{all_by}
use Rattle.vx_model.specs.Ty.{Ty, primitive}
use Rattle.vx_model.specs.CellData.{CellData, CellList, null_cell, bool_cell, int_cell, text_cell, bytes_cell, list_cell, struct_cell, no_cells, cell}
use Rattle.vx_model.specs.ChunkData.{ChunkData, plain_piece, constant_piece, dict_piece, piece_type, cells, is_dict_type}
use Rattle.vx_rules.specs.Columns.{offset_cell}
use Rattle.vx_rules.specs.Runs.{with_cell, place_in, distinct_from}

-- whether two cells are the same, flags and kept items too
abbrev mutual
  pub tree_eq : CellData → CellData → Bool
  tree_eq null_cell null_cell = true
  tree_eq (bool_cell a) (bool_cell b) = beq a b
  tree_eq (int_cell a) (int_cell b) = int_eq a b
  tree_eq (text_cell a) (text_cell b) = bytes_eq a b
  tree_eq (bytes_cell a) (bytes_cell b) = bytes_eq a b
  tree_eq (list_cell v cs) (list_cell w ds) = beq v w && trees_eq cs ds
  tree_eq (struct_cell v cs) (struct_cell w ds) = beq v w && trees_eq cs ds
  tree_eq c d = false

  pub trees_eq : CellList → CellList → Bool
  trees_eq no_cells no_cells = true
  trees_eq (cell c cs) (cell d ds) = tree_eq c d && trees_eq cs ds
  trees_eq cs ds = false

-- ---- dictionaries

abbrev pub distinct : List CellData → List CellData
distinct cs = distinct_from [] cs

-- the place of each cell among them
abbrev pub codes_of : List CellData → List CellData → List ℕ
codes_of ds [] = []
codes_of ds (c ∷ cs) = place_in c ds ∷ codes_of ds cs

-- the narrowest type that has the places of so many values
abbrev pub code_ptype : ℕ → PType
code_ptype n = if nat_le n 256 then U8 else if nat_le n 65536 then U16 else if nat_le n (2 ^ 32) then U32 else U64

abbrev pub dictionary : Ty → List CellData → ChunkData
dictionary t cs =
    dict_piece (plain_piece (primitive (code_ptype (length (distinct cs))) false) (map offset_cell (codes_of (distinct cs) cs))) (plain_piece t (distinct cs))

-- ---- the images, by the compressor's number

abbrev pub small_image : Ty → List CellData → ChunkData
small_image t cs = if is_dict_type t && nat_le (2 * length (distinct cs)) (length cs) then dictionary t cs else plain_piece t cs

-- A constant where there is a row and all cells are the same, else a dictionary where the type has one and at most half
-- of the cells are distinct.
abbrev pub chosen_image : Ty → List CellData → ChunkData
chosen_image t [] = small_image t []
chosen_image t (c ∷ cs) = if all_by (tree_eq c) cs then constant_piece t c (length (c ∷ cs)) else small_image t (c ∷ cs)

-- a dictionary where the type has one
abbrev pub coded_image : Ty → List CellData → ChunkData
coded_image t cs = if is_dict_type t then dictionary t cs else plain_piece t cs

abbrev pub table_image : ℕ → ChunkData → ChunkData
table_image which p =
    if which == 1 then chosen_image (piece_type p) (cells p)
    else if which == 2 then coded_image (piece_type p) (cells p)
    else plain_piece (piece_type p) (cells p)
