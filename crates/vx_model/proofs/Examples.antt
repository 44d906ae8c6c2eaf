-- The definitions computed on small examples.
use Rattle.std.proofs.Common.{◌≡◌, true, false, [], ◌∷◌, refl}
use Rattle.std.specs.Prelude.{pos, negsuc}
use Rattle.vx_model.specs.declared.ptype.PType.TheVariants.{U8, I16, I32, I64}
use Rattle.vx_model.specs.Ty.{primitive, utf8, list, struct, field, no_fields}
use Rattle.vx_model.specs.CellData.{null_cell, int_cell, text_cell, list_cell, struct_cell, trees_of, fits, cell_size, spelling}
use Rattle.vx_model.specs.ValueData.{null_value, value}
use Rattle.vx_model.specs.ChunkData.{ChunkData, plain_piece, constant_piece, dict_piece, list_piece, struct_piece, pieces_of, cells, held, is_sound}
use Rattle.vx_model.specs.Words.{joined_by}

-- the buffer of one 64-bit seven
-- a nullable text and a null: 1, the length, the text, 0
text_bytes : joined_by (spelling (utf8 true)) (text_cell (97 ∷ []) ∷ null_cell ∷ []) ≡ 1 ∷ 1 ∷ 0 ∷ 0 ∷ 0 ∷ 0 ∷ 0 ∷ 0 ∷ 0 ∷ 97 ∷ 0 ∷ []
text_bytes = refl

negative_bytes : spelling (primitive I16 false) (int_cell (negsuc 1)) ≡ 254 ∷ 255 ∷ []
negative_bytes = refl

-- an invalid struct keeps its fields' bytes
struct_bytes : spelling (struct (field (97 ∷ []) (primitive U8 false) no_fields) true) (struct_cell false (trees_of (int_cell (pos 9) ∷ []))) ≡ 0 ∷ 9 ∷ []
struct_bytes = refl

fits_range : fits (primitive U8 false) (int_cell (pos 255)) ≡ true
fits_range = refl

not_fits_range : fits (primitive U8 false) (int_cell (pos 256)) ≡ false
not_fits_range = refl

lowest_fits : fits (primitive I64 true) (int_cell (negsuc 9223372036854775807)) ≡ true
lowest_fits = refl

-- a nullable integer counts its width and the null byte
nullable_size : cell_size (primitive I64 true) null_cell ≡ 9
nullable_size = refl

null_text_size : cell_size (utf8 true) null_cell ≡ 17
null_text_size = refl

-- an invalid list is null to a reader
masked_list : value (list_cell false (trees_of (int_cell (pos 1) ∷ []))) ≡ null_value
masked_list = refl

-- elements 7, 8 under offsets 0, 1, 2
list_cells : cells (list_piece (list (primitive U8 false) false) (plain_piece (primitive U8 false) (int_cell (pos 7) ∷ int_cell (pos 8) ∷ [])) (0 ∷ 1 ∷ 2 ∷ []) []) ≡ list_cell true (trees_of (int_cell (pos 7) ∷ [])) ∷ list_cell true (trees_of (int_cell (pos 8) ∷ [])) ∷ []
list_cells = refl

coded : ChunkData
coded = dict_piece (plain_piece (primitive U8 false) (int_cell (pos 0) ∷ int_cell (pos 1) ∷ int_cell (pos 0) ∷ [])) (plain_piece (utf8 false) (text_cell (120 ∷ []) ∷ text_cell (121 ∷ []) ∷ []))

coded_cells : cells coded ≡ text_cell (120 ∷ []) ∷ text_cell (121 ∷ []) ∷ text_cell (120 ∷ []) ∷ []
unfolding coded
coded_cells = refl

coded_sound : is_sound coded ≡ true
unfolding coded
coded_sound = refl

-- codes of 3 bytes, and two texts of 17
coded_held : held coded ≡ 37
unfolding coded
coded_held = refl

struct_cells : cells (struct_piece (struct (field (97 ∷ []) (primitive I32 false) no_fields) true) (pieces_of (constant_piece (primitive I32 false) (int_cell (pos 5)) 2 ∷ [])) (true ∷ false ∷ []) 2) ≡ struct_cell true (trees_of (int_cell (pos 5) ∷ [])) ∷ struct_cell false (trees_of (int_cell (pos 5) ∷ [])) ∷ []
struct_cells = refl
