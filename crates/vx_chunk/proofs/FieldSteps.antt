-- Columns of structs, field by field.
use Rattle.std.proofs.Common.{◌≡◌, ℕ, zero, suc, ◌+◌, ◌<◌, ◌&&◌, Bool, true, List, [], ◌∷◌, ◌++◌, length, drop, get_or, map, refl, ap, sym, ◌∙◌, arith, append_assoc, eq-eqb}
use Rattle.std.specs.Global.{Vec}
use Rattle.std.proofs.lemmas.List.{drop_more, append-nil}
use Rattle.std.proofs.lemmas.Bool.{and_from, and_parts}
use Rattle.vx_model.specs.declared.dtype.StructField.{StructField}
use Rattle.vx_model.specs.declared.cell.Cell.{Cell}
use Rattle.vx_model.specs.Words.{all_by, head_or, tail}
use Rattle.vx_model.specs.Ty.{Ty, Tys, boolean, primitive, utf8, binary, list, struct, extension, no_fields, field, tys_of, is_struct}
use Rattle.vx_model.specs.TyView.{ty, field_ty}
use Rattle.vx_model.specs.CellData.{CellData, CellList, null_cell, bool_cell, int_cell, text_cell, bytes_cell, list_cell, struct_cell, no_cells, cell, items, fits, fields_fit, struct_fits, flag_fits}
use Rattle.vx_model.specs.ChunkData.{ChunkData, plain_piece}
use Rattle.vx_model.proofs.Views.{field_ty_is}
use Rattle.vx_chunk_cells.specs.Columns.{trees_in, rows_across}
use Rattle.vx_chunk_cells.specs.Parts.{struct_fields, fields_of, has_width}
use Rattle.vx_chunk_cells.proofs.RowWindows.{map_joined}
use Rattle.vx_chunk.specs.Parts.{typed_columns, columns_fit}
use Rattle.vx_layout_spec.specs.Parts.{first_of, others_of, plain_fields}

-- fields of a type
abbrev pub count_of : Tys → ℕ
count_of no_fields = 0
count_of (field name t fs) = suc (count_of fs)

count-tys_of : (fs : List StructField) → count_of (tys_of (map field_ty fs)) ≡ length fs
count-tys_of [] = refl
count-tys_of (f ∷ fs) = ap suc (count-tys_of fs)

pub count_is : (t : Ty) (fs : List StructField) → tys_of (map field_ty fs) ≡ struct_fields t → length fs ≡ count_of (struct_fields t)
count_is t fs e = sym (count-tys_of fs) ∙ ap count_of e

-- ---- the width of a struct's cells

fits_width : (fs : Tys) (cs : CellList) → fields_fit fs (items cs) ≡ true → length (items cs) ≡ count_of fs
fits_width no_fields no_cells h = refl
fits_width no_fields (cell c cs) h = cc
fits_width (field name t fs) no_cells h = cc
fits_width (field name t fs) (cell c cs) h = ap suc (fits_width fs cs (and_parts (fits t c) (fields_fit fs (items cs)) h).1)

struct_width : (fs : Tys) (n : Bool) (c : CellData) → struct_fits n (fields_fit fs) c ≡ true → has_width (count_of fs) c ≡ true
struct_width fs n (struct_cell valid cs) h = eq-eqb (length (items cs)) (count_of fs) (fits_width fs cs (and_parts (flag_fits valid n) (fields_fit fs (items cs)) h).1)
struct_width fs n null_cell h = cc
struct_width fs n (bool_cell b) h = cc
struct_width fs n (int_cell i) h = cc
struct_width fs n (text_cell s) h = cc
struct_width fs n (bytes_cell s) h = cc
struct_width fs n (list_cell v cs) h = cc

all_width : (fs : Tys) (n : Bool) (cs : List CellData) → all_by (struct_fits n (fields_fit fs)) cs ≡ true → all_by (has_width (count_of fs)) cs ≡ true
all_width fs n [] h = refl
all_width fs n (c ∷ cs) h =
    and_from (has_width (count_of fs) c) _ (struct_width fs n c (and_parts (struct_fits n (fields_fit fs) c) _ h).0) (all_width fs n cs (and_parts (struct_fits n (fields_fit fs) c) _ h).1)

pub cells_width : (t : Ty) (cs : List CellData) → is_struct t ≡ true → all_by (fits t) cs ≡ true → all_by (has_width (count_of (struct_fields t))) cs ≡ true
cells_width (struct fs n) cs s h = all_width fs n cs h
cells_width (boolean n) cs s h = cc
cells_width (primitive p n) cs s h = cc
cells_width (utf8 n) cs s h = cc
cells_width (binary n) cs s h = cc
cells_width (list t n) cs s h = cc
cells_width (extension tag t) cs s h = cc

-- ---- the columns are the fields

first_is : (c : CellData) → head_or null_cell (fields_of c) ≡ first_of c
first_is (struct_cell valid no_cells) = refl
first_is (struct_cell valid (cell c cs)) = refl
first_is null_cell = refl
first_is (bool_cell b) = refl
first_is (int_cell i) = refl
first_is (text_cell s) = refl
first_is (bytes_cell s) = refl
first_is (list_cell v cs) = refl

others_are : (c : CellData) → tail (fields_of c) ≡ fields_of (others_of c)
others_are (struct_cell valid no_cells) = refl
others_are (struct_cell valid (cell c cs)) = refl
others_are null_cell = refl
others_are (bool_cell b) = refl
others_are (int_cell i) = refl
others_are (text_cell s) = refl
others_are (bytes_cell s) = refl
others_are (list_cell v cs) = refl

map_others : (cs : List CellData) → map tail (map fields_of cs) ≡ map fields_of (map others_of cs)
map_others [] = refl
map_others (c ∷ cs) = rw (others_are c, map_others cs) refl

pub columns_are : (fs : Tys) (cs : List CellData) → typed_columns fs (rows_across (count_of fs) (map fields_of cs)) ≡ plain_fields fs cs
columns_are no_fields cs = refl
columns_are (field name t fs) cs = rw (map_joined (head_or null_cell) fields_of first_of cs first_is, map_others cs, columns_are fs (map others_of cs)) refl

-- ---- the columns fit

first_held : (name : List ℕ) (t : Ty) (fs : Tys) (c : CellData) → fields_fit (field name t fs) (fields_of c) ≡ true → fits t (first_of c) ≡ true
first_held name t fs (struct_cell valid no_cells) h = cc
first_held name t fs (struct_cell valid (cell c cs)) h = (and_parts (fits t c) (fields_fit fs (items cs)) h).0
first_held name t fs null_cell h = cc
first_held name t fs (bool_cell b) h = cc
first_held name t fs (int_cell i) h = cc
first_held name t fs (text_cell s) h = cc
first_held name t fs (bytes_cell s) h = cc
first_held name t fs (list_cell v cs) h = cc

others_held : (name : List ℕ) (t : Ty) (fs : Tys) (c : CellData) → fields_fit (field name t fs) (fields_of c) ≡ true → fields_fit fs (fields_of (others_of c)) ≡ true
others_held name t fs (struct_cell valid no_cells) h = cc
others_held name t fs (struct_cell valid (cell c cs)) h = (and_parts (fits t c) (fields_fit fs (items cs)) h).1
others_held name t fs null_cell h = cc
others_held name t fs (bool_cell b) h = cc
others_held name t fs (int_cell i) h = cc
others_held name t fs (text_cell s) h = cc
others_held name t fs (bytes_cell s) h = cc
others_held name t fs (list_cell v cs) h = cc

-- each cell holds the fields
abbrev pub hold : Tys → List CellData → Bool
hold fs [] = true
hold fs (c ∷ cs) = fields_fit fs (fields_of c) && hold fs cs

hold_first : (name : List ℕ) (t : Ty) (fs : Tys) (cs : List CellData) → hold (field name t fs) cs ≡ true → all_by (fits t) (map first_of cs) ≡ true
hold_first name t fs [] h = refl
hold_first name t fs (c ∷ cs) h =
    and_from (fits t (first_of c)) _ (first_held name t fs c (and_parts (fields_fit (field name t fs) (fields_of c)) _ h).0) (hold_first name t fs cs (and_parts (fields_fit (field name t fs) (fields_of c)) _ h).1)

hold_others : (name : List ℕ) (t : Ty) (fs : Tys) (cs : List CellData) → hold (field name t fs) cs ≡ true → hold fs (map others_of cs) ≡ true
hold_others name t fs [] h = refl
hold_others name t fs (c ∷ cs) h =
    and_from (fields_fit fs (fields_of (others_of c))) _ (others_held name t fs c (and_parts (fields_fit (field name t fs) (fields_of c)) _ h).0) (hold_others name t fs cs (and_parts (fields_fit (field name t fs) (fields_of c)) _ h).1)

holds_fit : (fs : Tys) (cs : List CellData) → hold fs cs ≡ true → columns_fit fs (rows_across (count_of fs) (map fields_of cs)) ≡ true
holds_fit no_fields cs h = refl
holds_fit (field name t fs) cs h =
    rw (map_joined (head_or null_cell) fields_of first_of cs first_is, map_others cs)
    (and_from (all_by (fits t) (map first_of cs)) _ (hold_first name t fs cs h) (holds_fit fs (map others_of cs) (hold_others name t fs cs h)))

struct_holds : (fs : Tys) (n : Bool) (cs : List CellData) → all_by (struct_fits n (fields_fit fs)) cs ≡ true → hold fs cs ≡ true
struct_holds fs n [] h = refl
struct_holds fs n (c ∷ cs) h = and_from (fields_fit fs (fields_of c)) _ (of_struct c (and_parts (struct_fits n (fields_fit fs) c) _ h).0) (struct_holds fs n cs (and_parts (struct_fits n (fields_fit fs) c) _ h).1)
  where
    of_struct : (c : CellData) → struct_fits n (fields_fit fs) c ≡ true → fields_fit fs (fields_of c) ≡ true
    of_struct (struct_cell valid cs) h = (and_parts (flag_fits valid n) (fields_fit fs (items cs)) h).1
    of_struct null_cell h = cc
    of_struct (bool_cell b) h = cc
    of_struct (int_cell i) h = cc
    of_struct (text_cell s) h = cc
    of_struct (bytes_cell s) h = cc
    of_struct (list_cell v cs) h = cc

pub cells_columns : (t : Ty) (cs : List CellData) → is_struct t ≡ true → all_by (fits t) cs ≡ true → columns_fit (struct_fields t) (rows_across (count_of (struct_fields t)) (map fields_of cs)) ≡ true
cells_columns (struct fs n) cs s h = holds_fit fs cs (struct_holds fs n cs h)
cells_columns (boolean n) cs s h = cc
cells_columns (primitive p n) cs s h = cc
cells_columns (utf8 n) cs s h = cc
cells_columns (binary n) cs s h = cc
cells_columns (list t n) cs s h = cc
cells_columns (extension tag t) cs s h = cc

-- ---- one column more

pub column_fits : (fs : List StructField) (i : ℕ) (column : List CellData) (columns : List (List CellData)) → columns_fit (tys_of (map field_ty (drop i fs))) (column ∷ columns) ≡ true → i < length fs
column_fits [] zero column columns h = cc
column_fits [] (suc i) column columns h = cc
column_fits (f ∷ fs) zero column columns h = omega arith
column_fits (f ∷ fs) (suc i) column columns h = let lt : i < length fs = column_fits fs i column columns h in omega arith

pub drop_typed : (fs : List StructField) (i : ℕ) (f : StructField) (column : List CellData) (columns : List (List CellData)) → i < length fs → f ≡ get_or fs i f
    → typed_columns (tys_of (map field_ty (drop i fs))) (column ∷ columns) ≡ plain_piece (ty f.dtype) column ∷ typed_columns (tys_of (map field_ty (drop (i + 1) fs))) columns
drop_typed fs i f column columns lt is = rw (drop_more fs i f lt, ← is, field_ty_is f) refl

pub drop_fit : (fs : List StructField) (i : ℕ) (f : StructField) (column : List CellData) (columns : List (List CellData)) → i < length fs → f ≡ get_or fs i f
    → columns_fit (tys_of (map field_ty (drop i fs))) (column ∷ columns) ≡ (all_by (fits (ty f.dtype)) column && columns_fit (tys_of (map field_ty (drop (i + 1) fs))) columns)
drop_fit fs i f column columns lt is = rw (drop_more fs i f lt, ← is, field_ty_is f) refl

pub typed_none : (fs : Tys) → typed_columns fs [] ≡ []
typed_none no_fields = refl
typed_none (field name t fs) = refl

-- the next column is the next field's
pub next_fit : (fs : List StructField) (i : ℕ) (f : StructField) (all rest : List (Vec Cell)) (column : Vec Cell) → f ≡ get_or fs i f → all ≡ column ∷ rest → columns_fit (tys_of (map field_ty (drop i fs))) (map trees_in all) ≡ true
    → (i < length fs) × ((all_by (fits (ty f.dtype)) (trees_in column) ≡ true) × (columns_fit (tys_of (map field_ty (drop (i + 1) fs))) (map trees_in rest) ≡ true))
next_fit fs i f all rest column is e h =
    let here : columns_fit (tys_of (map field_ty (drop i fs))) (trees_in column ∷ map trees_in rest) ≡ true = rw e at h in
    let lt = column_fits fs i (trees_in column) (map trees_in rest) here in
    (lt, and_parts (all_by (fits (ty f.dtype)) (trees_in column)) (columns_fit (tys_of (map field_ty (drop (i + 1) fs))) (map trees_in rest)) (sym (drop_fit fs i f (trees_in column) (map trees_in rest) lt is) ∙ here))

pub next_typed : (fs : List StructField) (i : ℕ) (f : StructField) (all rest : List (Vec Cell)) (column : Vec Cell) (chunks target : List ChunkData) → i < length fs → f ≡ get_or fs i f → all ≡ column ∷ rest
    → chunks ++ typed_columns (tys_of (map field_ty (drop i fs))) (map trees_in all) ≡ target
    → (chunks ++ (plain_piece (ty f.dtype) (trees_in column) ∷ [])) ++ typed_columns (tys_of (map field_ty (drop (i + 1) fs))) (map trees_in rest) ≡ target
next_typed fs i f all rest column chunks target lt is e h =
    append_assoc chunks (plain_piece (ty f.dtype) (trees_in column) ∷ []) (typed_columns (tys_of (map field_ty (drop (i + 1) fs))) (map trees_in rest))
    ∙ ap (λ (ys : List ChunkData). chunks ++ ys) (sym (drop_typed fs i f (trees_in column) (map trees_in rest) lt is))
    ∙ (rw e at h)

-- no column is left
pub all_typed : (chunks target : List ChunkData) (fs : Tys) (columns : List (Vec Cell)) → length columns ≡ 0 → chunks ++ typed_columns fs (map trees_in columns) ≡ target → chunks ≡ target
all_typed chunks target fs [] e h = sym (append-nil chunks) ∙ (rw (typed_none fs) at h)
all_typed chunks target fs (c ∷ columns) e h = absurd (omega arith)

pub ruleset field_rules = (append_assoc, append-nil, drop_typed, drop_fit, typed_none)
