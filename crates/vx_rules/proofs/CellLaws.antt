-- The cells of a whole chunk fit its type and are real, and they are fewer than 2^64.
use Rattle.std.proofs.Common.{◌≡◌, ℕ, zero, suc, ◌+◌, ◌-◌, ◌<◌, ◌≤◌, ◌^◌, ◌⊎◌, ◌&&◌, ◌||◌, nat_lt, Bool, true, false, cond, List, [], ◌∷◌, ◌++◌, map, length, take, drop, refl, sym, ap, ap₂, ◌∙◌, subst, inl, inr, ⊎_elim, arith, length-append, length-take, eqb-true}
use Rattle.std.specs.Prelude.{replicate, pos, negsuc, nat_le, ◌==◌, if◌then◌else◌}
use Rattle.std.proofs.lemmas.List.{length-map, length-replicate}
use Rattle.std.proofs.lemmas.Bool.{cases_Bool, true≢false, and_parts, and_from}
use Rattle.std.proofs.lemmas.Bool.Decides.{nat_tests}
use Rattle.vx_model.specs.Words.{all_by, head_or, tail}
use Rattle.vx_model.specs.Ty.{Ty, Tys, boolean, primitive, utf8, binary, list, struct, extension, no_fields, field, nullable, ty_eq}
use Rattle.vx_model.specs.TyLaws.{ty_eq_decides}
use Rattle.vx_model.specs.CellData.{CellData, CellList, null_cell, bool_cell, int_cell, text_cell, bytes_cell, list_cell, struct_cell, no_cells, cell, trees_of, items, fits, fields_fit, struct_fits, list_fits, flag_fits, first_fits}
use Rattle.vx_model.specs.ChunkData.{ChunkData, ChunkList, plain_piece, constant_piece, dict_piece, chunked_piece, list_piece, struct_piece, extension_piece, no_pieces, part, pieces_in, piece_type, cells, joined_cells, each_cells, list_rows, struct_rows, picked, cell_at, is_code, is_code_type, is_dict_type, is_simple, is_chunked, are_offsets, are_flags, validity_size, has_elements, has_storage, are_parts, match_fields, has_fields, is_sound, are_sound}
use Rattle.vx_model.proofs.CellViews.{items_trees_of}
use Rattle.vx_layout_spec.specs.Real.{is_length, is_real_cell, are_real_cells, is_real, are_real, Whole, Of}
use Rattle.vx_layout_spec.proofs.RealLaws.{real_trees_of}
use Rattle.vx_layout_spec.proofs.CellsFit.{all_append, all_left, all_take, all_drop, all_replicate, dict_all, flags_ok, list_rows_fit, ColumnsFit, struct_rows_fit}

-- Cells that a plain chunk of the type can hold
pub record Fine (t : Ty) (cs : List CellData) : Type 0 where
  pub fit : all_by (fits t) cs ≡ true
  pub real : all_by is_real_cell cs ≡ true
  pub short : length cs < 2 ^ 64

pub below : (n : ℕ) → nat_lt n (2 ^ 64) ≡ true → n < 2 ^ 64
below n h = grind (arith, nat_tests)

pub below_test : (n : ℕ) → n < 2 ^ 64 → nat_lt n (2 ^ 64) ≡ true
below_test n h = grind (arith, nat_tests)

-- ---- lists

length-drop-le : {X : Type 0} (n : ℕ) (xs : List X) → length (drop n xs) ≤ length xs
length-drop-le zero xs = omega arith
length-drop-le (suc n) [] = omega arith
length-drop-le (suc n) (x ∷ xs) = let h : length (drop n xs) ≤ length xs = length-drop-le n xs in omega arith

length-take-le_all : {X : Type 0} (n : ℕ) (xs : List X) → length (take n xs) ≤ length xs
length-take-le_all zero xs = omega arith
length-take-le_all (suc n) [] = omega arith
length-take-le_all (suc n) (x ∷ xs) = let h : length (take n xs) ≤ length xs = length-take-le_all n xs in omega arith

list_rows_real : (es : List CellData) (offsets : List ℕ) (valid : List Bool) → all_by is_real_cell es ≡ true → length es < 2 ^ 64 → all_by is_real_cell (list_rows es offsets valid) ≡ true
list_rows_real es [] valid g h = refl
list_rows_real es (a ∷ []) valid g h = refl
list_rows_real es (a ∷ b ∷ offsets) valid g h =
    let span : List CellData = take (b - a) (drop a es) in
    let l1 : length (take (b - a) (drop a es)) ≤ length (drop a es) = length-take-le_all (b - a) (drop a es) in
    let l2 : length (drop a es) ≤ length es = length-drop-le a es in
    and_from (are_real_cells (trees_of span) && is_length (length (items (trees_of span)))) (all_by is_real_cell (list_rows es (b ∷ offsets) (tail valid)))
    (and_from (are_real_cells (trees_of span)) (is_length (length (items (trees_of span))))
    (real_trees_of span ∙ all_take is_real_cell (b - a) (drop a es) (all_drop is_real_cell a es g))
    (ap (λ z. is_length (length z)) (items_trees_of span) ∙ below_test (length (take (b - a) (drop a es))) (omega arith)))
    (list_rows_real es (b ∷ offsets) (tail valid) g h)

pub length-list_rows : (es : List CellData) (offsets : List ℕ) (valid : List Bool) → length (list_rows es offsets valid) ≡ length offsets - 1
length-list_rows es [] valid = refl
length-list_rows es (a ∷ []) valid = refl
length-list_rows es (a ∷ b ∷ offsets) valid = let h : length (list_rows es (b ∷ offsets) (tail valid)) ≡ length (b ∷ offsets) - 1 = length-list_rows es (b ∷ offsets) (tail valid) in omega arith

-- ---- structs

abbrev pub ColumnsReal : List (List CellData) → Type 0
ColumnsReal [] = Unit {0}
ColumnsReal (c ∷ cs) = (all_by is_real_cell c ≡ true) × ColumnsReal cs

heads_real : (columns : List (List CellData)) → ColumnsReal columns → all_by is_real_cell (map (head_or null_cell) columns) ≡ true
heads_real [] h = refl
heads_real ([] ∷ cs) h = heads_real cs h.1
heads_real ((x ∷ c) ∷ cs) h = and_from (is_real_cell x) (all_by is_real_cell (map (head_or null_cell) cs)) (and_parts (is_real_cell x) (all_by is_real_cell c) h.0).0 (heads_real cs h.1)

tails_real : (columns : List (List CellData)) → ColumnsReal columns → ColumnsReal (map tail columns)
tails_real [] h = tt
tails_real ([] ∷ cs) h = (refl, tails_real cs h.1)
tails_real ((x ∷ c) ∷ cs) h = ((and_parts (is_real_cell x) (all_by is_real_cell c) h.0).1, tails_real cs h.1)

struct_rows_real : (n : ℕ) (columns : List (List CellData)) (valid : List Bool) → ColumnsReal columns → all_by is_real_cell (struct_rows n columns valid) ≡ true
struct_rows_real zero columns valid h = refl
struct_rows_real (suc n) columns valid h =
    and_from (are_real_cells (trees_of (map (head_or null_cell) columns))) (all_by is_real_cell (struct_rows n (map tail columns) (tail valid)))
    (real_trees_of (map (head_or null_cell) columns) ∙ heads_real columns h)
    (struct_rows_real n (map tail columns) (tail valid) (tails_real columns h))

pub length-struct_rows : (n : ℕ) (columns : List (List CellData)) (valid : List Bool) → length (struct_rows n columns valid) ≡ n
length-struct_rows zero columns valid = refl
length-struct_rows (suc n) columns valid = ap suc (length-struct_rows n (map tail columns) (tail valid))

-- ---- every chunk

pub of_type : (s t : Ty) → ty_eq s t ≡ true → s ≡ t
of_type s t e = (ty_eq_decides s t).0 e

pub no_last : (a : Bool) → (a && false) ≡ true → ⊥
no_last true h = true≢false (sym h)
no_last false h = true≢false (sym h)

mutual
  whole_fine : (p : ChunkData) → is_sound p ≡ true → is_real p ≡ true → Fine (piece_type p) (cells p)
  whole_fine (plain_piece t cs) s r = record {
    fit = (and_parts (all_by (fits t) cs) (nat_lt (length cs) (2 ^ 64)) s).0;
    real = r;
    short = below (length cs) (and_parts (all_by (fits t) cs) (nat_lt (length cs) (2 ^ 64)) s).1;
  }
  whole_fine (constant_piece t c n) s r = record {
    fit = all_replicate (fits t) n c (and_parts (fits t c) (nat_lt n (2 ^ 64)) s).0;
    real = all_replicate is_real_cell n c r;
    short = rw (length-replicate n c) (below n (and_parts (fits t c) (nat_lt n (2 ^ 64)) s).1);
  }
  whole_fine (dict_piece codes values) s r =
      let sc : (is_sound codes && is_sound values) ≡ true = (and_parts (is_sound codes && is_sound values) _ s).0 in
      let simple : _ ≡ true = (and_parts (is_sound codes && is_sound values) _ s).1 in
      let kinds : _ ≡ true = (and_parts (is_simple codes && is_simple values) _ simple).1 in
      let places : all_by (is_code (length (cells values))) (cells codes) ≡ true = (and_parts (is_code_type (piece_type codes) && is_dict_type (piece_type values)) _ kinds).1 in
      let c : Fine (piece_type codes) (cells codes) = whole_fine codes (and_parts (is_sound codes) (is_sound values) sc).0 (and_parts (is_real codes) (is_real values) r).0 in
      let v : Fine (piece_type values) (cells values) = whole_fine values (and_parts (is_sound codes) (is_sound values) sc).1 (and_parts (is_real codes) (is_real values) r).1 in
      record {
        fit = dict_all (fits (piece_type values)) (cells values) (cells codes) v.fit places;
        real = dict_all is_real_cell (cells values) (cells codes) v.real places;
        short = rw (length-map (cells codes) (picked (cells values))) c.short;
      }
  whole_fine (chunked_piece t ps) s r =
      let rest : _ ≡ true = (and_parts (are_sound ps) _ s).1 in
      let parts : are_parts t (pieces_in ps) ≡ true = (and_parts (are_parts t (pieces_in ps)) _ rest).0 in
      record {
        fit = parts_fit t ps (and_parts (are_sound ps) _ s).0 r parts;
        real = parts_real ps (and_parts (are_sound ps) _ s).0 r;
        short = below (length (joined_cells ps)) (and_parts (are_parts t (pieces_in ps)) _ rest).1;
      }
  whole_fine (list_piece (list t m) e offsets valid) s r =
      let a : _ ≡ true = (and_parts (is_sound e) _ s).1 in
      let same : piece_type e ≡ t = sym (of_type t (piece_type e) (and_parts (ty_eq t (piece_type e)) _ a).0) in
      let b : _ ≡ true = (and_parts (ty_eq t (piece_type e)) _ a).1 in
      let c : _ ≡ true = (and_parts (are_offsets (length (cells e)) offsets) _ b).1 in
      let many : length offsets < 2 ^ 64 = below (length offsets) (and_parts (nat_lt (length offsets) (2 ^ 64)) _ c).0 in
      let flags : are_flags (list t m) (length offsets - 1) valid ≡ true = (and_parts (nat_lt (length offsets) (2 ^ 64)) _ c).1 in
      let f : Fine (piece_type e) (cells e) = whole_fine e (and_parts (is_sound e) _ s).0 r in
      let rows : length (list_rows (cells e) offsets valid) ≡ length offsets - 1 = length-list_rows (cells e) offsets valid in
      record {
        fit = list_rows_fit t m (cells e) offsets valid (subst (λ u. all_by (fits u) (cells e) ≡ true) same f.fit) (flags_ok m (length offsets - 1) valid flags);
        real = list_rows_real (cells e) offsets valid f.real f.short;
        short = omega arith;
      }
  whole_fine (list_piece (boolean m) e offsets valid) s r = absurd (no_last (is_sound e) s)
  whole_fine (list_piece (primitive p m) e offsets valid) s r = absurd (no_last (is_sound e) s)
  whole_fine (list_piece (utf8 m) e offsets valid) s r = absurd (no_last (is_sound e) s)
  whole_fine (list_piece (binary m) e offsets valid) s r = absurd (no_last (is_sound e) s)
  whole_fine (list_piece (struct fs m) e offsets valid) s r = absurd (no_last (is_sound e) s)
  whole_fine (list_piece (extension tag t) e offsets valid) s r = absurd (no_last (is_sound e) s)
  whole_fine (struct_piece (struct fs m) ps valid n) s r =
      let a : _ ≡ true = (and_parts (are_sound ps) _ s).1 in
      let b : _ ≡ true = (and_parts (match_fields fs (pieces_in ps) n) _ a).1 in
      let flags : are_flags (struct fs m) n valid ≡ true = (and_parts (nat_lt n (2 ^ 64)) _ b).1 in
      record {
        fit = struct_rows_fit fs m n (each_cells ps) valid (fields_columns fs ps n (and_parts (are_sound ps) _ s).0 r (and_parts (match_fields fs (pieces_in ps) n) _ a).0) (flags_ok m n valid flags);
        real = struct_rows_real n (each_cells ps) valid (fields_real ps (and_parts (are_sound ps) _ s).0 r);
        short = rw (length-struct_rows n (each_cells ps) valid) (below n (and_parts (nat_lt n (2 ^ 64)) _ b).0);
      }
  whole_fine (struct_piece (boolean m) ps valid n) s r = absurd (no_last (are_sound ps) s)
  whole_fine (struct_piece (primitive p m) ps valid n) s r = absurd (no_last (are_sound ps) s)
  whole_fine (struct_piece (utf8 m) ps valid n) s r = absurd (no_last (are_sound ps) s)
  whole_fine (struct_piece (binary m) ps valid n) s r = absurd (no_last (are_sound ps) s)
  whole_fine (struct_piece (list t m) ps valid n) s r = absurd (no_last (are_sound ps) s)
  whole_fine (struct_piece (extension tag t) ps valid n) s r = absurd (no_last (are_sound ps) s)
  whole_fine (extension_piece (extension tag t) p) s r =
      let same : piece_type p ≡ t = sym (of_type t (piece_type p) (and_parts (is_sound p) _ s).1) in
      let f : Fine (piece_type p) (cells p) = whole_fine p (and_parts (is_sound p) _ s).0 r in
      record { fit = subst (λ u. all_by (fits u) (cells p) ≡ true) same f.fit; real = f.real; short = f.short }
  whole_fine (extension_piece (boolean m) p) s r = absurd (no_last (is_sound p) s)
  whole_fine (extension_piece (primitive q m) p) s r = absurd (no_last (is_sound p) s)
  whole_fine (extension_piece (utf8 m) p) s r = absurd (no_last (is_sound p) s)
  whole_fine (extension_piece (binary m) p) s r = absurd (no_last (is_sound p) s)
  whole_fine (extension_piece (list t m) p) s r = absurd (no_last (is_sound p) s)
  whole_fine (extension_piece (struct fs m) p) s r = absurd (no_last (is_sound p) s)

  parts_fit : (t : Ty) (ps : ChunkList) → are_sound ps ≡ true → are_real ps ≡ true → are_parts t (pieces_in ps) ≡ true → all_by (fits t) (joined_cells ps) ≡ true
  parts_fit t no_pieces s r h = refl
  parts_fit t (part p ps) s r h =
      let typed : piece_type p ≡ t = of_type (piece_type p) t (and_parts (ty_eq (piece_type p) t) _ (and_parts (ty_eq (piece_type p) t && _) _ h).0).0 in
      let f : Fine (piece_type p) (cells p) = whole_fine p (and_parts (is_sound p) (are_sound ps) s).0 (and_parts (is_real p) (are_real ps) r).0 in
      all_append (fits t) (cells p) (joined_cells ps) (subst (λ u. all_by (fits u) (cells p) ≡ true) typed f.fit)
      (parts_fit t ps (and_parts (is_sound p) (are_sound ps) s).1 (and_parts (is_real p) (are_real ps) r).1 (and_parts _ (are_parts t (pieces_in ps)) h).1)

  parts_real : (ps : ChunkList) → are_sound ps ≡ true → are_real ps ≡ true → all_by is_real_cell (joined_cells ps) ≡ true
  parts_real no_pieces s r = refl
  parts_real (part p ps) s r =
      let f : Fine (piece_type p) (cells p) = whole_fine p (and_parts (is_sound p) (are_sound ps) s).0 (and_parts (is_real p) (are_real ps) r).0 in
      all_append is_real_cell (cells p) (joined_cells ps) f.real (parts_real ps (and_parts (is_sound p) (are_sound ps) s).1 (and_parts (is_real p) (are_real ps) r).1)

  fields_columns : (fs : Tys) (ps : ChunkList) (n : ℕ) → are_sound ps ≡ true → are_real ps ≡ true → match_fields fs (pieces_in ps) n ≡ true → ColumnsFit fs (each_cells ps) n
  fields_columns no_fields no_pieces n s r h = tt
  fields_columns no_fields (part p ps) n s r h = cc
  fields_columns (field name t fs) no_pieces n s r h = cc
  fields_columns (field name t fs) (part p ps) n s r h =
      let typed : piece_type p ≡ t = of_type (piece_type p) t (and_parts (ty_eq (piece_type p) t) _ h).0 in
      let rest : _ ≡ true = (and_parts (ty_eq (piece_type p) t) _ h).1 in
      let f : Fine (piece_type p) (cells p) = whole_fine p (and_parts (is_sound p) (are_sound ps) s).0 (and_parts (is_real p) (are_real ps) r).0 in (
        subst (λ u. all_by (fits u) (cells p) ≡ true) typed f.fit,
        eqb-true (length (cells p)) n (and_parts (length (cells p) == n) _ rest).0,
        fields_columns fs ps n (and_parts (is_sound p) (are_sound ps) s).1 (and_parts (is_real p) (are_real ps) r).1 (and_parts (length (cells p) == n) _ rest).1,
      )

  fields_real : (ps : ChunkList) → are_sound ps ≡ true → are_real ps ≡ true → ColumnsReal (each_cells ps)
  fields_real no_pieces s r = tt
  fields_real (part p ps) s r =
      let f : Fine (piece_type p) (cells p) = whole_fine p (and_parts (is_sound p) (are_sound ps) s).0 (and_parts (is_real p) (are_real ps) r).0 in
      (f.real, fields_real ps (and_parts (is_sound p) (are_sound ps) s).1 (and_parts (is_real p) (are_real ps) r).1)

-- the cells of a whole chunk of the type
pub cells_fine : (t : Ty) (p : ChunkData) → Of t p → Fine t (cells p)
cells_fine t p o = subst (λ u. Fine u (cells p)) o.typed (whole_fine p o.whole.sound o.whole.real)

-- such cells make a plain chunk
pub plain_of : (t : Ty) (cs : List CellData) → Fine t cs → Of t (plain_piece t cs)
plain_of t cs f = record {
  typed = refl;
  whole = record { sound = and_from (all_by (fits t) cs) (nat_lt (length cs) (2 ^ 64)) f.fit (below_test (length cs) f.short); real = f.real };
}

pub fine_part : (t : Ty) (cs front back : List CellData) → cs ≡ front ++ back → Fine t cs → Fine t front
fine_part t cs front back e f = record {
  fit = all_left (fits t) front back (subst (λ z. all_by (fits t) z ≡ true) e f.fit);
  real = all_left is_real_cell front back (subst (λ z. all_by is_real_cell z ≡ true) e f.real);
  short = let h : length cs ≡ length front + length back = ap length e ∙ length-append front back in let g : length cs < 2 ^ 64 = f.short in omega arith;
}
