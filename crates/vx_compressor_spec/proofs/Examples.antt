-- Images of small chunks.
use Rattle.std.proofs.Common.{◌≡◌, ℕ, true, false, List, [], ◌∷◌, map, refl}
use Rattle.std.specs.Prelude.{pos, codes}
use Rattle.vx_model.specs.declared.ptype.PType.TheVariants.{U8, U16, U32, U64, I64}
use Rattle.vx_model.specs.Ty.{boolean, primitive, utf8}
use Rattle.vx_model.specs.CellData.{bool_cell, int_cell, text_cell}
use Rattle.vx_model.specs.ChunkData.{ChunkData, plain_piece, constant_piece, dict_piece}
use Rattle.vx_compressor_spec.specs.TableImage.{code_ptype, table_image}

ints : List ℕ → ChunkData
ints ns = plain_piece (primitive I64 false) (map (λ n. int_cell (pos n)) ns)

codes_are : List ℕ → ChunkData
codes_are ns = plain_piece (primitive U8 false) (map (λ n. int_cell (pos n)) ns)

constant : table_image 1 (ints (5 ∷ 5 ∷ 5 ∷ [])) ≡ constant_piece (primitive I64 false) (int_cell (pos 5)) 3
unfolding ints
constant = refl

half_distinct : table_image 1 (ints (1 ∷ 2 ∷ 1 ∷ 2 ∷ [])) ≡ dict_piece (codes_are (0 ∷ 1 ∷ 0 ∷ 1 ∷ [])) (ints (1 ∷ 2 ∷ []))
unfolding ints codes_are
half_distinct = refl

all_distinct : table_image 1 (ints (1 ∷ 2 ∷ 3 ∷ [])) ≡ ints (1 ∷ 2 ∷ 3 ∷ [])
unfolding ints
all_distinct = refl

no_rows : table_image 1 (ints []) ≡ dict_piece (codes_are []) (ints [])
unfolding ints codes_are
no_rows = refl

-- booleans have no dictionary
truths : table_image 1 (plain_piece (boolean false) (bool_cell true ∷ bool_cell true ∷ bool_cell false ∷ bool_cell false ∷ [])) ≡ plain_piece (boolean false) (bool_cell true ∷ bool_cell true ∷ bool_cell false ∷ bool_cell false ∷ [])
truths = refl

-- a dictionary whatever the cells are
coded : table_image 2 (ints (7 ∷ 3 ∷ 7 ∷ [])) ≡ dict_piece (codes_are (0 ∷ 1 ∷ 0 ∷ [])) (ints (7 ∷ 3 ∷ []))
unfolding ints codes_are
coded = refl

coded_truths : table_image 2 (plain_piece (boolean false) (bool_cell true ∷ [])) ≡ plain_piece (boolean false) (bool_cell true ∷ [])
coded_truths = refl

plain : table_image 0 (ints (5 ∷ 5 ∷ 5 ∷ [])) ≡ ints (5 ∷ 5 ∷ 5 ∷ [])
unfolding ints
plain = refl

plain_again : table_image 0 (constant_piece (utf8 false) (text_cell (codes "a")) 2) ≡ plain_piece (utf8 false) (text_cell (codes "a") ∷ text_cell (codes "a") ∷ [])
plain_again = refl

widths : map code_ptype (0 ∷ 256 ∷ 257 ∷ 65536 ∷ 65537 ∷ 4294967296 ∷ 4294967297 ∷ []) ≡ U8 ∷ U8 ∷ U16 ∷ U16 ∷ U32 ∷ U32 ∷ U64 ∷ []
widths = refl
