-- The cells of columns, and the rows that they give when put together.
use Rattle.std.proofs.Common.{◌≡◌, ℕ, zero, suc, ◌+◌, ◌-◌, ◌<◌, ◌≤◌, ◌^◌, ◌⊎◌, ◌&&◌, ◌||◌, Bool, true, false, cond, List, [], ◌∷◌, ◌++◌, map, length, take, drop, refl, sym, ap, ap₂, ◌∙◌, subst, inl, inr, ⊎_elim, arith, append_assoc, length-append, eqb-true}
use Rattle.std.specs.Prelude.{nat_lt, ◌==◌}
use Rattle.std.proofs.lemmas.List.{append-nil, length-map, map-append}
use Rattle.std.proofs.lemmas.Bool.{true≢false, and_from, and_parts}
use Rattle.vx_model.specs.Words.{all_by, head_or, tail}
use Rattle.vx_model.specs.Ty.{Ty, Tys, boolean, primitive, utf8, binary, list, struct, extension, no_fields, field, ty_eq}
use Rattle.vx_model.specs.TyLaws.{ty_eq_decides}
use Rattle.vx_model.specs.CellData.{CellData, CellList, null_cell, bool_cell, int_cell, text_cell, bytes_cell, list_cell, struct_cell, no_cells, cell, trees_of, items, fits, fields_fit, struct_fits, flag_fits}
use Rattle.vx_model.specs.ValueData.{ValueData, ValueList, null_value, bool_value, struct_value, list_value, vals_of, value, values_in, masked, one_value, no_values}
use Rattle.vx_model.specs.ChunkData.{ChunkData, ChunkList, plain_piece, constant_piece, dict_piece, chunked_piece, list_piece, struct_piece, extension_piece, no_pieces, part, pieces_in, piece_type, cells, each_cells, struct_rows, match_fields, has_fields, is_sound, are_sound, are_flags}
use Rattle.vx_model.proofs.CellViews.{items_trees_of, values_in-trees_of}
use Rattle.vx_layout_spec.specs.Real.{Of, Whole, is_real_cell, are_real_cells, is_real, are_real}
use Rattle.vx_layout_spec.specs.Rows.{zipped, kept, kept_rows}
use Rattle.vx_rules.specs.Columns.{struct_columns}
use Rattle.vx_layout_spec.specs.Parts.{flag_of, validity_piece, first_of, others_of, plain_fields, field_pieces}
use Rattle.vx_layout_spec.proofs.CellsFit.{all_append, ColumnsFit}
use Rattle.vx_rules.proofs.CellLaws.{Fine, cells_fine, plain_of, of_type, no_last}

-- ---- structs: the fields' cells

-- the cells of each field, of so many structs
abbrev pub field_cells : Tys → List CellData → List (List CellData)
field_cells no_fields cs = []
field_cells (field name t fs) cs = map first_of cs ∷ field_cells fs (map others_of cs)

abbrev pub each_cell : List ChunkData → List (List CellData)
each_cell [] = []
each_cell (p ∷ ps) = cells p ∷ each_cell ps

plain_cells : (fs : Tys) (cs : List CellData) → each_cell (plain_fields fs cs) ≡ field_cells fs cs
plain_cells no_fields cs = refl
plain_cells (field name t fs) cs = ap (λ z. map first_of cs ∷ z) (plain_cells fs (map others_of cs))

each_cell-in : (ps : ChunkList) → each_cell (pieces_in ps) ≡ each_cells ps
each_cell-in no_pieces = refl
each_cell-in (part p ps) = ap (λ z. cells p ∷ z) (each_cell-in ps)

-- the first column of structs made of columns, and the rest of them
firsts_made : (n : ℕ) (c : List CellData) (columns : List (List CellData)) (valid : List Bool) → length c ≡ n → map first_of (struct_rows n (c ∷ columns) valid) ≡ c
firsts_made zero [] columns valid e = refl
firsts_made zero (x ∷ c) columns valid e = absurd (omega arith)
firsts_made (suc n) [] columns valid e = absurd (omega arith)
firsts_made (suc n) (x ∷ c) columns valid e = ap (λ z. x ∷ z) (firsts_made n c (map tail columns) (tail valid) (omega arith))

others_made : (n : ℕ) (c : List CellData) (columns : List (List CellData)) (valid : List Bool) → map others_of (struct_rows n (c ∷ columns) valid) ≡ struct_rows n columns valid
others_made zero c columns valid = refl
others_made (suc n) c columns valid = ap (λ z. struct_cell (head_or true valid) (trees_of (map (head_or null_cell) columns)) ∷ z) (others_made n (tail c) (map tail columns) (tail valid))

fields_made : (fs : Tys) (n : ℕ) (columns : List (List CellData)) (valid : List Bool) → ColumnsFit fs columns n → field_cells fs (struct_rows n columns valid) ≡ columns
fields_made no_fields n [] valid h = refl
fields_made no_fields n (c ∷ columns) valid h = absurd h
fields_made (field name t fs) n [] valid h = absurd h
fields_made (field name t fs) n (c ∷ columns) valid h =
    ap₂ (λ x y. x ∷ y) (firsts_made n c columns valid h.1) (ap (field_cells fs) (others_made n c columns valid) ∙ fields_made fs n columns valid h.2)

-- whole chunks of the fields' types, each of n rows
abbrev pub FieldsOf : Tys → List ChunkData → ℕ → Type 0
FieldsOf no_fields [] n = Unit {0}
FieldsOf no_fields (p ∷ ps) n = ⊥
FieldsOf (field name t fs) [] n = ⊥
FieldsOf (field name t fs) (p ∷ ps) n = Of t p × (length (cells p) ≡ n) × FieldsOf fs ps n

kept_fields : (fs : Tys) (ps : ChunkList) (n : ℕ) → are_sound ps ≡ true → are_real ps ≡ true → match_fields fs (pieces_in ps) n ≡ true → FieldsOf fs (pieces_in ps) n
kept_fields no_fields no_pieces n s r h = tt
kept_fields no_fields (part p ps) n s r h = absurd (true≢false (sym h))
kept_fields (field name t fs) no_pieces n s r h = absurd (true≢false (sym h))
kept_fields (field name t fs) (part p ps) n s r h =
    let rest : _ ≡ true = (and_parts (ty_eq (piece_type p) t) _ h).1 in (
      record { typed = of_type (piece_type p) t (and_parts (ty_eq (piece_type p) t) _ h).0; whole = record { sound = (and_parts (is_sound p) (are_sound ps) s).0; real = (and_parts (is_real p) (are_real ps) r).0 } },
      eqb-true (length (cells p)) n (and_parts (length (cells p) == n) _ rest).0,
      kept_fields fs ps n (and_parts (is_sound p) (are_sound ps) s).1 (and_parts (is_real p) (are_real ps) r).1 (and_parts (length (cells p) == n) _ rest).1,
    )

fields_fit_columns : (fs : Tys) (ps : List ChunkData) (n : ℕ) → FieldsOf fs ps n → ColumnsFit fs (each_cell ps) n
fields_fit_columns no_fields [] n h = tt
fields_fit_columns no_fields (p ∷ ps) n h = absurd h
fields_fit_columns (field name t fs) [] n h = absurd h
fields_fit_columns (field name t fs) (p ∷ ps) n h = ((cells_fine t p h.0).fit, h.1, fields_fit_columns fs ps n h.2)

-- cells of structs
abbrev pub AreStructs : Tys → Bool → List CellData → Type 0
AreStructs fs m cs = (all_by (fits (struct fs m)) cs ≡ true) × (all_by is_real_cell cs ≡ true)

first_fits_one : (name : List ℕ) (t : Ty) (fs : Tys) (m : Bool) (c : CellData) → fits (struct (field name t fs) m) c ≡ true → is_real_cell c ≡ true
    → (fits t (first_of c) ≡ true) × (is_real_cell (first_of c) ≡ true) × (fits (struct fs m) (others_of c) ≡ true) × (is_real_cell (others_of c) ≡ true)
first_fits_one name t fs m (struct_cell v (cell c cs)) h r =
    let flag : flag_fits v m ≡ true = (and_parts (flag_fits v m) _ h).0 in
    let inner : (fits t c && fields_fit fs (items cs)) ≡ true = (and_parts (flag_fits v m) _ h).1 in (
      (and_parts (fits t c) _ inner).0,
      (and_parts (is_real_cell c) (are_real_cells cs) r).0,
      and_from (flag_fits v m) (fields_fit fs (items cs)) flag (and_parts (fits t c) _ inner).1,
      (and_parts (is_real_cell c) (are_real_cells cs) r).1,
    )
first_fits_one name t fs m (struct_cell v no_cells) h r = absurd (no_last (flag_fits v m) h)
first_fits_one name t fs m null_cell h r = absurd (true≢false (sym h))
first_fits_one name t fs m (bool_cell b) h r = absurd (true≢false (sym h))
first_fits_one name t fs m (int_cell b) h r = absurd (true≢false (sym h))
first_fits_one name t fs m (text_cell b) h r = absurd (true≢false (sym h))
first_fits_one name t fs m (bytes_cell b) h r = absurd (true≢false (sym h))
first_fits_one name t fs m (list_cell v b) h r = absurd (true≢false (sym h))

firsts_fit : (name : List ℕ) (t : Ty) (fs : Tys) (m : Bool) (cs : List CellData) → AreStructs (field name t fs) m cs
    → (all_by (fits t) (map first_of cs) ≡ true) × (all_by is_real_cell (map first_of cs) ≡ true) × AreStructs fs m (map others_of cs)
firsts_fit name t fs m [] h = (refl, refl, (refl, refl))
firsts_fit name t fs m (c ∷ cs) h =
    let a : (fits t (first_of c) ≡ true) × (is_real_cell (first_of c) ≡ true) × (fits (struct fs m) (others_of c) ≡ true) × (is_real_cell (others_of c) ≡ true) =
    first_fits_one name t fs m c (and_parts (fits (struct (field name t fs) m) c) _ h.0).0 (and_parts (is_real_cell c) _ h.1).0 in
    let b : (all_by (fits t) (map first_of cs) ≡ true) × (all_by is_real_cell (map first_of cs) ≡ true) × AreStructs fs m (map others_of cs) =
    firsts_fit name t fs m cs ((and_parts (fits (struct (field name t fs) m) c) _ h.0).1, (and_parts (is_real_cell c) _ h.1).1) in (
      and_from (fits t (first_of c)) _ a.0 b.0,
      and_from (is_real_cell (first_of c)) _ a.1 b.1,
      (and_from (fits (struct fs m) (others_of c)) _ a.2 b.2.0, and_from (is_real_cell (others_of c)) _ a.3 b.2.1),
    )

plain_fields_of : (fs : Tys) (m : Bool) (cs : List CellData) (n : ℕ) → AreStructs fs m cs → length cs ≡ n → n < 2 ^ 64 → FieldsOf fs (plain_fields fs cs) n
plain_fields_of no_fields m cs n h e lt = tt
plain_fields_of (field name t fs) m cs n h e lt =
    let a : (all_by (fits t) (map first_of cs) ≡ true) × (all_by is_real_cell (map first_of cs) ≡ true) × AreStructs fs m (map others_of cs) = firsts_fit name t fs m cs h in
    let l : length (map first_of cs) ≡ n = length-map cs first_of ∙ e in
    let k : length (map others_of cs) ≡ n = length-map cs others_of ∙ e in
    (plain_of t (map first_of cs) (record { fit = a.0; real = a.1; short = omega arith }), l, plain_fields_of fs m (map others_of cs) n a.2 k lt)

are_structs : (fs : Tys) (m : Bool) (p : ChunkData) → Of (struct fs m) p → AreStructs fs m (cells p)
are_structs fs m p o = let f : Fine (struct fs m) (cells p) = cells_fine (struct fs m) p o in (f.fit, f.real)

plain_case : (fs : Tys) (m : Bool) (p : ChunkData) → Of (struct fs m) p → FieldsOf fs (plain_fields fs (cells p)) (length (cells p)) × (each_cell (plain_fields fs (cells p)) ≡ field_cells fs (cells p))
plain_case fs m p o = (plain_fields_of fs m (cells p) (length (cells p)) (are_structs fs m p o) refl (cells_fine (struct fs m) p o).short, plain_cells fs (cells p))

other_type : (fs : Tys) (m : Bool) (u : Ty) → u ≡ struct fs m → (ps : ChunkList) (valid : List Bool) (n : ℕ) → Whole (struct_piece u ps valid n)
    → (FieldsOf fs (pieces_in ps) n) × (length (struct_rows n (each_cells ps) valid) ≡ n) × (each_cell (pieces_in ps) ≡ field_cells fs (struct_rows n (each_cells ps) valid))
other_type fs m u e ps valid n w =
    let s : is_sound (struct_piece (struct fs m) ps valid n) ≡ true = subst (λ z. is_sound (struct_piece z ps valid n) ≡ true) e w.sound in
    let a : _ ≡ true = (and_parts (are_sound ps) _ s).1 in
    let f : FieldsOf fs (pieces_in ps) n = kept_fields fs ps n (and_parts (are_sound ps) _ s).0 w.real (and_parts (match_fields fs (pieces_in ps) n) _ a).0 in (
      f,
      Rattle.vx_rules.proofs.CellLaws.length-struct_rows n (each_cells ps) valid,
      each_cell-in ps ∙ sym (fields_made fs n (each_cells ps) valid (subst (λ z. ColumnsFit fs z n) (each_cell-in ps) (fields_fit_columns fs (pieces_in ps) n f))),
    )

-- the fields' chunks are whole ones of the fields' types, and have the fields' cells
pub fields_are : (fs : Tys) (m : Bool) (p : ChunkData) → Of (struct fs m) p
    → FieldsOf fs (field_pieces fs p) (length (cells p)) × (each_cell (field_pieces fs p) ≡ field_cells fs (cells p))
fields_are fs m (plain_piece t cs) o = plain_case fs m (plain_piece t cs) o
fields_are fs m (constant_piece t c n) o = plain_case fs m (constant_piece t c n) o
fields_are fs m (dict_piece codes values) o = plain_case fs m (dict_piece codes values) o
fields_are fs m (chunked_piece t ps) o = plain_case fs m (chunked_piece t ps) o
fields_are fs m (list_piece t e offsets valid) o = plain_case fs m (list_piece t e offsets valid) o
fields_are fs m (extension_piece t p) o = plain_case fs m (extension_piece t p) o
fields_are fs m (struct_piece u ps valid n) o =
    let a : (FieldsOf fs (pieces_in ps) n) × (length (struct_rows n (each_cells ps) valid) ≡ n) × (each_cell (pieces_in ps) ≡ field_cells fs (struct_rows n (each_cells ps) valid)) =
    other_type fs m u o.typed ps valid n o.whole in
    (subst (FieldsOf fs (pieces_in ps)) (sym a.1) a.0, a.2)

-- ---- structs: the rows from the columns

-- the values of a struct's fields, whether it is valid or not
abbrev pub inner_value : CellData → ValueData
inner_value (struct_cell valid cs) = struct_value (values_in cs)
inner_value (list_cell valid cs) = list_value (values_in cs)
inner_value c = value c

abbrev pub column_values : List (List CellData) → List (List ValueData)
column_values [] = []
column_values (c ∷ cs) = map value c ∷ column_values cs

head_values : (fs : Tys) (v : Bool) (inner : CellList) (cs : List CellData) → fields_fit fs (items inner) ≡ true
    → vals_of (map (head_or null_value) (column_values (field_cells fs (struct_cell v inner ∷ cs)))) ≡ values_in inner
head_values no_fields v no_cells cs h = refl
head_values no_fields v (cell c inner) cs h = absurd (true≢false (sym h))
head_values (field name t fs) v no_cells cs h = absurd (true≢false (sym h))
head_values (field name t fs) v (cell c inner) cs h = ap (one_value (value c)) (head_values fs v inner (map others_of cs) (and_parts (fits t c) _ h).1)

tail_values : (fs : Tys) (c : CellData) (cs : List CellData) → map tail (column_values (field_cells fs (c ∷ cs))) ≡ column_values (field_cells fs cs)
tail_values no_fields c cs = refl
tail_values (field name t fs) c cs = ap (λ z. map value (map first_of cs) ∷ z) (tail_values fs (others_of c) (map others_of cs))

pub zipped_fields : (fs : Tys) (m : Bool) (cs : List CellData) → all_by (fits (struct fs m)) cs ≡ true
    → zipped (length cs) (column_values (field_cells fs cs)) ≡ map inner_value cs
zipped_fields fs m [] h = refl
zipped_fields fs m (struct_cell v inner ∷ cs) h =
    ap₂ (λ x y. struct_value x ∷ y)
    (head_values fs v inner cs (and_parts (flag_fits v m) _ (and_parts (fits (struct fs m) (struct_cell v inner)) _ h).0).1)
    (ap (zipped (length cs)) (tail_values fs (struct_cell v inner) cs) ∙ zipped_fields fs m cs (and_parts (fits (struct fs m) (struct_cell v inner)) _ h).1)
zipped_fields fs m (null_cell ∷ cs) h = absurd (true≢false (sym h))
zipped_fields fs m (bool_cell b ∷ cs) h = absurd (true≢false (sym h))
zipped_fields fs m (int_cell b ∷ cs) h = absurd (true≢false (sym h))
zipped_fields fs m (text_cell b ∷ cs) h = absurd (true≢false (sym h))
zipped_fields fs m (bytes_cell b ∷ cs) h = absurd (true≢false (sym h))
zipped_fields fs m (list_cell v b ∷ cs) h = absurd (true≢false (sym h))

-- under their flags the inner values are the rows
kept_one : (c : CellData) → kept (bool_value (flag_of c)) (inner_value c) ≡ value c
kept_one null_cell = refl
kept_one (bool_cell b) = refl
kept_one (int_cell i) = refl
kept_one (text_cell s) = refl
kept_one (bytes_cell s) = refl
kept_one (list_cell true cs) = refl
kept_one (list_cell false cs) = refl
kept_one (struct_cell true cs) = refl
kept_one (struct_cell false cs) = refl

pub flags_keep : (cs : List CellData) → kept_rows (map value (map bool_cell (map flag_of cs))) (map inner_value cs) ≡ map value cs
flags_keep [] = refl
flags_keep (c ∷ cs) = ap₂ (λ x y. x ∷ y) (kept_one c) (flags_keep cs)

-- of a type that isn't nullable they are the rows themselves
all_valid_one : (c : CellData) → flag_of c ≡ true → inner_value c ≡ value c
all_valid_one null_cell e = refl
all_valid_one (bool_cell b) e = refl
all_valid_one (int_cell i) e = refl
all_valid_one (text_cell s) e = refl
all_valid_one (bytes_cell s) e = refl
all_valid_one (list_cell true cs) e = refl
all_valid_one (list_cell false cs) e = absurd (true≢false (sym e))
all_valid_one (struct_cell true cs) e = refl
all_valid_one (struct_cell false cs) e = absurd (true≢false (sym e))

flag_true : (v : Bool) → (v || false) ≡ true → v ≡ true
flag_true true e = refl
flag_true false e = e

valid_flag : (t : Ty) (c : CellData) → fits (list t false) c ≡ true → flag_of c ≡ true
valid_flag t null_cell h = refl
valid_flag t (bool_cell b) h = refl
valid_flag t (int_cell i) h = refl
valid_flag t (text_cell s) h = refl
valid_flag t (bytes_cell s) h = refl
valid_flag t (list_cell v cs) h = flag_true v (and_parts (flag_fits v false) _ h).0
valid_flag t (struct_cell v cs) h = absurd (true≢false (sym h))

valid_struct : (fs : Tys) (c : CellData) → fits (struct fs false) c ≡ true → flag_of c ≡ true
valid_struct fs null_cell h = refl
valid_struct fs (bool_cell b) h = refl
valid_struct fs (int_cell i) h = refl
valid_struct fs (text_cell s) h = refl
valid_struct fs (bytes_cell s) h = refl
valid_struct fs (list_cell v cs) h = absurd (true≢false (sym h))
valid_struct fs (struct_cell v cs) h = flag_true v (and_parts (flag_fits v false) _ h).0

pub structs_valid : (fs : Tys) (cs : List CellData) → all_by (fits (struct fs false)) cs ≡ true → map inner_value cs ≡ map value cs
structs_valid fs [] h = refl
structs_valid fs (c ∷ cs) h = ap₂ (λ x y. x ∷ y) (all_valid_one c (valid_struct fs c (and_parts (fits (struct fs false) c) _ h).0)) (structs_valid fs cs (and_parts (fits (struct fs false) c) _ h).1)

pub lists_valid : (t : Ty) (cs : List CellData) → all_by (fits (list t false)) cs ≡ true → map inner_value cs ≡ map value cs
lists_valid t [] h = refl
lists_valid t (c ∷ cs) h = ap₂ (λ x y. x ∷ y) (all_valid_one c (valid_flag t c (and_parts (fits (list t false) c) _ h).0)) (lists_valid t cs (and_parts (fits (list t false) c) _ h).1)

-- ---- validity

flags_fit : (bs : List Bool) → (all_by (fits (boolean false)) (map bool_cell bs) ≡ true) × (all_by is_real_cell (map bool_cell bs) ≡ true)
flags_fit [] = (refl, refl)
flags_fit (b ∷ bs) = flags_fit bs

pub validity_of : (p : ChunkData) → length (cells p) < 2 ^ 64 → Of (boolean false) (validity_piece p)
validity_of p lt =
    let f : (all_by (fits (boolean false)) (map bool_cell (map flag_of (cells p))) ≡ true) × (all_by is_real_cell (map bool_cell (map flag_of (cells p))) ≡ true) = flags_fit (map flag_of (cells p)) in
    let l : length (map bool_cell (map flag_of (cells p))) ≡ length (cells p) = length-map (map flag_of (cells p)) bool_cell ∙ length-map (cells p) flag_of in
    plain_of (boolean false) (map bool_cell (map flag_of (cells p))) (record { fit = f.0; real = f.1; short = omega arith })
