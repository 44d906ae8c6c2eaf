-- The fields of a struct chunk match its type.
use Rattle.std.proofs.Common.{◌≡◌, ℕ, zero, suc, ◌&&◌, ◌^◌, Bool, true, false, List, [], ◌∷◌, length, map, refl, sym, ap, ap₂, ◌∙◌, subst, eq-eqb}
use Rattle.std.specs.Prelude.{◌==◌, nat_lt, if◌then◌else◌}
use Rattle.std.proofs.lemmas.Bool.{and_parts, and_from}
use Rattle.std.proofs.lemmas.List.{length-map}
use Rattle.vx_model.specs.Words.{all_by, tail}
use Rattle.vx_model.specs.Ty.{Ty, Tys, boolean, primitive, utf8, binary, list, struct, extension, no_fields, field, is_struct, ty_eq}
use Rattle.vx_model.specs.TyLaws.{ty_eq_decides}
use Rattle.vx_model.specs.CellData.{CellData, fits}
use Rattle.vx_model.specs.ChunkData.{ChunkData, ChunkList, plain_piece, constant_piece, dict_piece, chunked_piece, list_piece, struct_piece, extension_piece, piece_type, pieces_in, cells, struct_rows, each_cells, match_fields, has_fields, is_sound, are_sound, are_flags}
use Rattle.vx_layout_spec.specs.Parts.{first_of, others_of, plain_fields, field_pieces}
use Rattle.vx_chunk_cells.specs.Parts.{struct_fields}
use Rattle.vx_chunk.proofs.CellsFit.{cells_fit}
use Rattle.vx_file_stats.specs.FileStats.{types_in, column_types, column_pieces}

-- ---- plain fields

count_is : (m n : ℕ) → m ≡ n → (m == n) ≡ true
count_is m n e = eq-eqb m n e

plain_match : (fs : Tys) (cs : List CellData) (n : ℕ) → length cs ≡ n → match_fields fs (plain_fields fs cs) n ≡ true
plain_match no_fields cs n e = refl
plain_match (field name t fs) cs n e =
    and_from (ty_eq t t) ((length (map first_of cs) == n) && match_fields fs (plain_fields fs (map others_of cs)) n) ((ty_eq_decides t t).1 refl)
    (and_from (length (map first_of cs) == n) (match_fields fs (plain_fields fs (map others_of cs)) n) (count_is (length (map first_of cs)) n (length-map cs first_of ∙ e))
    (plain_match fs (map others_of cs) n (length-map cs others_of ∙ e)))

-- ---- the fields of any chunk

rows_count : (n : ℕ) (columns : List (List CellData)) (valid : List Bool) → length (struct_rows n columns valid) ≡ n
rows_count zero columns valid = refl
rows_count (suc n) columns valid = ap suc (rows_count n (map tail columns) (tail valid))

struct_match : (t : Ty) (ps : ChunkList) (valid : List Bool) (n : ℕ) → is_struct t ≡ true → is_sound (struct_piece t ps valid n) ≡ true → match_fields (struct_fields t) (pieces_in ps) n ≡ true
struct_match (struct fs m) ps valid n s h =
    let t = struct fs m in
    let rest : (has_fields t (pieces_in ps) n && (nat_lt n (2 ^ 64) && are_flags t n valid)) ≡ true = (and_parts (are_sound ps) (has_fields t (pieces_in ps) n && (nat_lt n (2 ^ 64) && are_flags t n valid)) h).1 in
    (and_parts (has_fields t (pieces_in ps) n) (nat_lt n (2 ^ 64) && are_flags t n valid) rest).0
struct_match (boolean m) ps valid n s h = cc
struct_match (primitive p m) ps valid n s h = cc
struct_match (utf8 m) ps valid n s h = cc
struct_match (binary m) ps valid n s h = cc
struct_match (list t m) ps valid n s h = cc
struct_match (extension tag t) ps valid n s h = cc

pub fields_match : (p : ChunkData) → is_struct (piece_type p) ≡ true → is_sound p ≡ true → match_fields (struct_fields (piece_type p)) (field_pieces (struct_fields (piece_type p)) p) (length (cells p)) ≡ true
fields_match (struct_piece t ps valid n) s h =
    subst (λ (k : ℕ). match_fields (struct_fields t) (pieces_in ps) k ≡ true) (sym (rows_count n (each_cells ps) valid)) (struct_match t ps valid n s h)
fields_match (plain_piece t cs) s h = plain_match (struct_fields t) cs (length cs) refl
fields_match (constant_piece t c n) s h = plain_match (struct_fields t) (cells (constant_piece t c n)) (length (cells (constant_piece t c n))) refl
fields_match (dict_piece codes values) s h = plain_match (struct_fields (piece_type values)) (cells (dict_piece codes values)) (length (cells (dict_piece codes values))) refl
fields_match (chunked_piece t ps) s h = plain_match (struct_fields t) (cells (chunked_piece t ps)) (length (cells (chunked_piece t ps))) refl
fields_match (list_piece t e offsets valid) s h = plain_match (struct_fields t) (cells (list_piece t e offsets valid)) (length (cells (list_piece t e offsets valid))) refl
fields_match (extension_piece t p) s h = plain_match (struct_fields t) (cells (extension_piece t p)) (length (cells (extension_piece t p))) refl

-- ---- so its columns have the types of its type's columns

match_types : (fs : Tys) (ps : List ChunkData) (n : ℕ) → match_fields fs ps n ≡ true → map piece_type ps ≡ types_in fs
match_types no_fields [] n h = refl
match_types no_fields (p ∷ ps) n h = cc
match_types (field name t fs) [] n h = cc
match_types (field name t fs) (p ∷ ps) n h =
    let parts = and_parts (ty_eq (piece_type p) t) ((length (cells p) == n) && match_fields fs ps n) h in
    let more = and_parts (length (cells p) == n) (match_fields fs ps n) parts.1 in
    ap₂ (λ (u : Ty) (us : List Ty). u ∷ us) ((ty_eq_decides (piece_type p) t).0 parts.0) (match_types fs ps n more.1)

-- by whether it is a struct
choose : (t : Ty) (p : ChunkData) (b : Bool) → piece_type p ≡ t → (b ≡ true → map piece_type (field_pieces (struct_fields t) p) ≡ types_in (struct_fields t))
    → map piece_type (if b then field_pieces (struct_fields t) p else p ∷ []) ≡ (if b then types_in (struct_fields t) else t ∷ [])
choose t p true e f = f refl
choose t p false e f = ap (λ (u : Ty). u ∷ []) e

pub pieces_typed : (p : ChunkData) → is_sound p ≡ true → map piece_type (column_pieces p) ≡ column_types (piece_type p)
pieces_typed p h =
    choose (piece_type p) p (is_struct (piece_type p)) refl
    (λ s. match_types (struct_fields (piece_type p)) (field_pieces (struct_fields (piece_type p)) p) (length (cells p)) (fields_match p s h))

-- ---- its cells are of the type

pub chunk_fits : (p : ChunkData) (t : Ty) (cs : List CellData) → is_sound p ≡ true → t ≡ piece_type p → cs ≡ cells p → all_by (fits t) cs ≡ true
chunk_fits p t cs s e h = ap (all_by (fits t)) h ∙ subst (λ (u : Ty). all_by (fits u) (cells p) ≡ true) (sym e) (cells_fit p s)
