-- Chunks put together of others have their rows.
use Rattle.std.proofs.Common.{◌≡◌, ℕ, zero, suc, ◌&&◌, Bool, true, false, List, [], ◌∷◌, ◌++◌, length, get_or, map, Some, refl, sym, ap, ap₂, ◌∙◌, append_assoc}
use Rattle.std.proofs.lemmas.List.{append-nil, length-map}
use Rattle.std.proofs.lemmas.Bool.{and_parts, and_from}
use Rattle.std.specs.Prelude.{◌==◌}
use Rattle.vx_model.specs.Words.{all_by, joined_by, head_or, tail}
use Rattle.vx_model.specs.Ty.{Ty, Tys, boolean, primitive, utf8, binary, list, struct, extension, no_fields, field, ty_eq}
use Rattle.vx_model.specs.CellData.{CellData, null_cell}
use Rattle.vx_model.specs.ValueData.{ValueData, null_value, bool_value, value, struct_value}
use Rattle.vx_model.specs.ChunkData.{ChunkData, struct_piece, pieces_of, piece_type, cells, each_cells, struct_rows, row_values, match_fields, has_fields}
use Rattle.vx_model.proofs.CellViews.{values_in-trees_of}
use Rattle.vx_layout_spec.specs.Rows.{has_count, zipped, fields_rows}
use Rattle.vx_chunk.specs.Conditions.{makes_struct}
use Rattle.vx_chunk.proofs.Joined.{rows_joined}

-- ---- one behind the other

pub one_behind : {X A : Type 0} (f : X → List A) (xs : List X) (x : X) → joined_by f (xs ++ x ∷ []) ≡ joined_by f xs ++ f x
one_behind f [] x = append-nil (f x)
one_behind f (y ∷ xs) x = ap (λ r. f y ++ r) (one_behind f xs x) ∙ sym (append_assoc (f y) (joined_by f xs) (f x))

pub all_behind : {X A : Type 0} (f : X → List A) (xs ys : List X) → joined_by f (xs ++ ys) ≡ joined_by f xs ++ joined_by f ys
all_behind f [] ys = refl
all_behind f (x ∷ xs) ys = ap (λ r. f x ++ r) (all_behind f xs ys) ∙ sym (append_assoc (f x) (joined_by f xs) (joined_by f ys))

pub one_alone : {X A : Type 0} (f : X → List A) (xs : List X) (x : X) → length xs ≡ 1 → x ≡ get_or xs 0 x → f x ≡ joined_by f xs
one_alone f [] x one is = cc
one_alone f (y ∷ []) x one is = ap f is ∙ sym (append-nil (f y))
one_alone f (y ∷ z ∷ xs) x one is = cc

pub ruleset column_rules = (append_assoc, append-nil, one_behind, one_alone, rows_joined)

-- ---- beside each other

heads : (columns : List (List CellData)) → map value (map (head_or null_cell) columns) ≡ map (head_or null_value) (map (map value) columns)
heads [] = refl
heads ([] ∷ columns) = ap (λ vs. null_value ∷ vs) (heads columns)
heads ((c ∷ cs) ∷ columns) = ap (λ vs. value c ∷ vs) (heads columns)

tails : (columns : List (List CellData)) → map (map value) (map tail columns) ≡ map tail (map (map value) columns)
tails [] = refl
tails ([] ∷ columns) = ap (λ vs. [] ∷ vs) (tails columns)
tails ((c ∷ cs) ∷ columns) = ap (λ vs. map value cs ∷ vs) (tails columns)

-- the rows of structs that are all valid
structs : (n : ℕ) (columns : List (List CellData)) → map value (struct_rows n columns []) ≡ zipped n (map (map value) columns)
structs zero columns = refl
structs (suc n) columns =
    ap₂ (λ v vs. struct_value v ∷ vs) (values_in-trees_of (map (head_or null_cell) columns) ∙ ap Rattle.vx_model.specs.ValueData.vals_of (heads columns))
    (structs n (map tail columns) ∙ ap (zipped n) (tails columns))

each_values : (ps : List ChunkData) → map (map value) (each_cells (pieces_of ps)) ≡ map row_values ps
each_values [] = refl
each_values (p ∷ ps) = ap (λ r. row_values p ∷ r) (each_values ps)

counts_match : (fs : Tys) (ps : List ChunkData) (n : ℕ) → match_fields fs ps n ≡ true → all_by (has_count n) (map row_values ps) ≡ true
counts_match no_fields [] n h = refl
counts_match no_fields (p ∷ ps) n h = cc
counts_match (field name t fs) [] n h = cc
counts_match (field name t fs) (p ∷ ps) n h =
    let rest = (and_parts (ty_eq (piece_type p) t) ((length (cells p) == n) && match_fields fs ps n) h).1 in
    let own = and_parts (length (cells p) == n) (match_fields fs ps n) rest in
    and_from (has_count n (row_values p)) (all_by (has_count n) (map row_values ps)) (ap (λ m. m == n) (length-map (cells p) value) ∙ own.0) (counts_match fs ps n own.1)

counts_fit : (t : Ty) (ps : List ChunkData) (n : ℕ) → has_fields t ps n ≡ true → all_by (has_count n) (map row_values ps) ≡ true
counts_fit (struct fs m) ps n h = counts_match fs ps n h
counts_fit (boolean m) ps n h = cc
counts_fit (primitive p m) ps n h = cc
counts_fit (utf8 m) ps n h = cc
counts_fit (binary m) ps n h = cc
counts_fit (list t m) ps n h = cc
counts_fit (extension tag t) ps n h = cc

pub struct_is : (t : Ty) (ps : List ChunkData) (valid : List Bool) (n : ℕ) → valid ≡ [] → makes_struct t ps valid n ≡ true → fields_rows n (map row_values ps) ≡ Some (row_values (struct_piece t (pieces_of ps) valid n))
struct_is t ps valid n none h =
    rw (none, counts_fit t ps n (and_parts (has_fields t ps n) _ h).0) (ap Some (ap (zipped n) (sym (each_values ps)) ∙ sym (structs n (each_cells (pieces_of ps)))))

pub ruleset struct_rules = (struct_is)
