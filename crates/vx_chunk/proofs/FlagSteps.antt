-- The flags of each encoding's rows.
use Rattle.std.proofs.Common.{◌≡◌, ℕ, zero, suc, ◌+◌, ◌-◌, ◌<◌, Bool, true, false, List, [], ◌∷◌, ◌++◌, length, drop, get_or, map, refl, ap, arith, append_assoc, append-nil, rules}
use Rattle.std.specs.Prelude.{replicate, pos, negsuc}
use Rattle.std.proofs.lemmas.List.{drop_more, map-append}
use Rattle.std.proofs.lemmas.Bool.{and_parts}
use Rattle.vx_model.specs.declared.dtype.DType as dt
use Rattle.vx_model.specs.declared.ptype.Nullability.TheVariants.{NonNullable}
use Rattle.vx_model.specs.TyView.{ty}
use Rattle.vx_model.specs.Words.{tail, all_by}
use Rattle.vx_model.specs.Ty.{Ty, boolean, primitive, utf8, binary, list, struct, extension}
use Rattle.vx_model.specs.CellData.{CellData, null_cell, bool_cell, int_cell, text_cell, bytes_cell, list_cell, struct_cell, fits}
use Rattle.vx_model.specs.ChunkData.{ChunkData, pieces_of, cells, joined_cells, list_rows, struct_rows, picked, cell_at, is_dict_type}
use Rattle.vx_chunk_cells.specs.Parts.{row_flags}
use Rattle.vx_typed.specs.Typed.{typed_cells}
use Rattle.vx_layout_spec.specs.Parts.{flag_of, elements_of}
use Rattle.vx_chunk_cells.proofs.Steps.{map-replicate}
use Rattle.vx_chunk.proofs.Depths.{depth_in}

-- ---- leaves

-- no list and no struct
abbrev pub is_leaf : CellData → Bool
is_leaf (list_cell valid cs) = false
is_leaf (struct_cell valid cs) = false
is_leaf c = true

pub leaf_flag : (c : CellData) → is_leaf c ≡ true → flag_of c ≡ true
leaf_flag (list_cell valid cs) h = cc
leaf_flag (struct_cell valid cs) h = cc
leaf_flag null_cell h = refl
leaf_flag (bool_cell b) h = refl
leaf_flag (int_cell i) h = refl
leaf_flag (text_cell s) h = refl
leaf_flag (bytes_cell s) h = refl

pub leaf_elements : (c : CellData) → is_leaf c ≡ true → elements_of c ≡ []
leaf_elements (list_cell valid cs) h = cc
leaf_elements (struct_cell valid cs) h = refl
leaf_elements null_cell h = refl
leaf_elements (bool_cell b) h = refl
leaf_elements (int_cell i) h = refl
leaf_elements (text_cell s) h = refl
leaf_elements (bytes_cell s) h = refl

leaf_fits : (t : Ty) (c : CellData) → is_dict_type t ≡ true → fits t c ≡ true → is_leaf c ≡ true
leaf_fits (primitive p n) (list_cell valid cs) d h = h
leaf_fits (primitive p n) (struct_cell valid cs) d h = h
leaf_fits (utf8 n) (list_cell valid cs) d h = h
leaf_fits (utf8 n) (struct_cell valid cs) d h = h
leaf_fits (binary n) (list_cell valid cs) d h = h
leaf_fits (binary n) (struct_cell valid cs) d h = h
leaf_fits (boolean n) c d h = cc
leaf_fits (list t n) c d h = cc
leaf_fits (struct fs n) c d h = cc
leaf_fits (extension tag t) c d h = cc
leaf_fits t null_cell d h = refl
leaf_fits t (bool_cell b) d h = refl
leaf_fits t (int_cell i) d h = refl
leaf_fits t (text_cell s) d h = refl
leaf_fits t (bytes_cell s) d h = refl

leaf_at : (t : Ty) (vs : List CellData) (n : ℕ) → is_dict_type t ≡ true → all_by (fits t) vs ≡ true → is_leaf (cell_at vs n) ≡ true
leaf_at t [] n d h = refl
leaf_at t (v ∷ vs) zero d h = leaf_fits t v d (and_parts (fits t v) (all_by (fits t) vs) h).0
leaf_at t (v ∷ vs) (suc n) d h = leaf_at t vs n d (and_parts (fits t v) (all_by (fits t) vs) h).1

-- a dictionary's values are leaves
pub leaf_picked : (t : Ty) (vs : List CellData) (c : CellData) → is_dict_type t ≡ true → all_by (fits t) vs ≡ true → is_leaf (picked vs c) ≡ true
leaf_picked t vs (int_cell (pos n)) d h = leaf_at t vs n d h
leaf_picked t vs (int_cell (negsuc n)) d h = refl
leaf_picked t vs null_cell d h = refl
leaf_picked t vs (bool_cell b) d h = refl
leaf_picked t vs (text_cell s) d h = refl
leaf_picked t vs (bytes_cell s) d h = refl
leaf_picked t vs (list_cell v cs) d h = refl
leaf_picked t vs (struct_cell v cs) d h = refl

-- ---- flags

pub picked_flags : (t : Ty) (vs codes : List CellData) → is_dict_type t ≡ true → all_by (fits t) vs ≡ true → map flag_of (map (picked vs) codes) ≡ replicate (length codes) true
picked_flags t vs [] d h = refl
picked_flags t vs (c ∷ codes) d h = rw (leaf_flag (picked vs c) (leaf_picked t vs c d h), picked_flags t vs codes d h) refl

pub list_flags : (es : List CellData) (os : List ℕ) (v : List Bool) → map flag_of (list_rows es os v) ≡ row_flags (length os - 1) v
list_flags es [] v = refl
list_flags es (a ∷ []) v = refl
list_flags es (a ∷ b ∷ os) v =
    let e : length (a ∷ b ∷ os) - 1 ≡ suc (length (b ∷ os) - 1) = omega arith in
    rw (e, list_flags es (b ∷ os) (tail v)) refl

pub struct_flags : (n : ℕ) (columns : List (List CellData)) (v : List Bool) → map flag_of (struct_rows n columns v) ≡ row_flags n v
struct_flags zero columns v = refl
struct_flags (suc n) columns v = rw (struct_flags n (map tail columns) (tail v)) refl

pub drop_flags : (ps : List ChunkData) (i : ℕ) (p : ChunkData) → i < length ps → p ≡ get_or ps i p
    → map flag_of (joined_cells (pieces_of (drop i ps))) ≡ map flag_of (cells p) ++ map flag_of (joined_cells (pieces_of (drop (i + 1) ps)))
drop_flags ps i p lt is = rw (drop_more ps i p lt, ← is, map-append flag_of (cells p) (joined_cells (pieces_of (drop (i + 1) ps)))) refl

pub ty_flags : ty (dt.Bool NonNullable) ≡ boolean false
ty_flags = search (rules, dt.the_lemmas)

pub bools_fit : (bs : List Bool) → all_by (fits (boolean false)) (map bool_cell bs) ≡ true
bools_fit [] = refl
bools_fit (b ∷ bs) = bools_fit bs

pub all_valid : (bs : List Bool) → typed_cells (λ (b : Bool). bool_cell b) bs [] ≡ map bool_cell bs
all_valid [] = refl
all_valid (b ∷ bs) = ap (λ (r : List CellData). bool_cell b ∷ r) (all_valid bs)

pub ruleset chunk_rules = (all_valid, bools_fit, ty_flags)

pub ruleset flag_rules = (append_assoc, append-nil, map-replicate, list_flags, struct_flags, drop_flags, depth_in)
