-- What holds of each cell of a list holds of each of its parts, and the cells of a dictionary, of a list and of a struct fit where those below them do.
use Rattle.std.proofs.Common.{◌≡◌, ℕ, zero, suc, ◌-◌, ◌<◌, ◌⊎◌, ◌&&◌, nat_lt, Bool, true, false, List, [], ◌∷◌, ◌++◌, map, length, take, drop, refl, ap, ◌∙◌, inl, inr, arith, eqb-true}
use Rattle.std.specs.Prelude.{replicate, pos, negsuc, ◌==◌, if◌then◌else◌}
use Rattle.std.proofs.lemmas.Bool.{and_from, and_parts}
use Rattle.std.proofs.lemmas.Bool.Decides.{nat_tests}
use Rattle.vx_model.specs.Words.{all_by, head_or, tail}
use Rattle.vx_model.specs.Ty.{Ty, Tys, no_fields, field}
use Rattle.vx_model.specs.CellData.{CellData, null_cell, bool_cell, int_cell, text_cell, bytes_cell, list_cell, struct_cell, trees_of, items, fits, fields_fit, struct_fits, list_fits, flag_fits}
use Rattle.vx_model.specs.ChunkData.{list_rows, struct_rows, picked, cell_at, is_code}
use Rattle.vx_model.proofs.CellViews.{items_trees_of}

-- ---- what holds of each

pub all_append : {X : Type 0} (f : X → Bool) (xs ys : List X) → all_by f xs ≡ true → all_by f ys ≡ true → all_by f (xs ++ ys) ≡ true
all_append f [] ys g h = h
all_append f (x ∷ xs) ys g h = and_from (f x) (all_by f (xs ++ ys)) (and_parts (f x) (all_by f xs) g).0 (all_append f xs ys (and_parts (f x) (all_by f xs) g).1 h)

pub all_left : {X : Type 0} (f : X → Bool) (xs ys : List X) → all_by f (xs ++ ys) ≡ true → all_by f xs ≡ true
all_left f [] ys g = refl
all_left f (x ∷ xs) ys g = and_from (f x) (all_by f xs) (and_parts (f x) (all_by f (xs ++ ys)) g).0 (all_left f xs ys (and_parts (f x) (all_by f (xs ++ ys)) g).1)

pub all_right : {X : Type 0} (f : X → Bool) (xs ys : List X) → all_by f (xs ++ ys) ≡ true → all_by f ys ≡ true
all_right f [] ys g = g
all_right f (x ∷ xs) ys g = all_right f xs ys (and_parts (f x) (all_by f (xs ++ ys)) g).1

pub all_take : {X : Type 0} (f : X → Bool) (n : ℕ) (xs : List X) → all_by f xs ≡ true → all_by f (take n xs) ≡ true
all_take f zero xs g = refl
all_take f (suc n) [] g = refl
all_take f (suc n) (x ∷ xs) g = and_from (f x) (all_by f (take n xs)) (and_parts (f x) (all_by f xs) g).0 (all_take f n xs (and_parts (f x) (all_by f xs) g).1)

pub all_drop : {X : Type 0} (f : X → Bool) (n : ℕ) (xs : List X) → all_by f xs ≡ true → all_by f (drop n xs) ≡ true
all_drop f zero xs g = g
all_drop f (suc n) [] g = refl
all_drop f (suc n) (x ∷ xs) g = all_drop f n xs (and_parts (f x) (all_by f xs) g).1

pub all_replicate : {X : Type 0} (f : X → Bool) (n : ℕ) (x : X) → f x ≡ true → all_by f (replicate n x) ≡ true
all_replicate f zero x g = refl
all_replicate f (suc n) x g = and_from (f x) (all_by f (replicate n x)) g (all_replicate f n x g)

-- ---- dictionaries

cell_at_all : (f : CellData → Bool) (vs : List CellData) (n : ℕ) → all_by f vs ≡ true → n < length vs → f (cell_at vs n) ≡ true
cell_at_all f [] n g lt = absurd (omega arith)
cell_at_all f (v ∷ vs) zero g lt = (and_parts (f v) (all_by f vs) g).0
cell_at_all f (v ∷ vs) (suc n) g lt = cell_at_all f vs n (and_parts (f v) (all_by f vs) g).1 (omega arith)

lt_test : (m n : ℕ) → nat_lt m n ≡ true → m < n
lt_test m n h = grind (arith, nat_tests)

picked_all : (f : CellData → Bool) (vs : List CellData) (c : CellData) → all_by f vs ≡ true → is_code (length vs) c ≡ true → f (picked vs c) ≡ true
picked_all f vs (int_cell (pos n)) g h = cell_at_all f vs n g (lt_test n (length vs) h)
picked_all f vs (int_cell (negsuc n)) g h = cc
picked_all f vs null_cell g h = cc
picked_all f vs (bool_cell b) g h = cc
picked_all f vs (text_cell s) g h = cc
picked_all f vs (bytes_cell s) g h = cc
picked_all f vs (list_cell v cs) g h = cc
picked_all f vs (struct_cell v cs) g h = cc

pub dict_all : (f : CellData → Bool) (vs codes : List CellData) → all_by f vs ≡ true → all_by (is_code (length vs)) codes ≡ true → all_by f (map (picked vs) codes) ≡ true
dict_all f vs [] g h = refl
dict_all f vs (c ∷ codes) g h = and_from (f (picked vs c)) (all_by f (map (picked vs) codes))
    (picked_all f vs c g (and_parts (is_code (length vs) c) (all_by (is_code (length vs)) codes) h).0)
    (dict_all f vs codes g (and_parts (is_code (length vs) c) (all_by (is_code (length vs)) codes) h).1)

-- ---- flags

-- a flag is false only where the type is nullable
abbrev pub FlagsOk : Bool → List Bool → Type 0
FlagsOk m valid = (m ≡ true) ⊎ (valid ≡ [])

pub flags_ok : (m : Bool) (n : ℕ) (valid : List Bool) → (length valid == (if m then n else 0)) ≡ true → FlagsOk m valid
flags_ok true n valid h = inl refl
flags_ok false n [] h = inr refl
flags_ok false n (v ∷ valid) h = let e : suc (length valid) ≡ 0 = eqb-true (suc (length valid)) 0 h in absurd (omega arith)

pub flags_tail : (m : Bool) (valid : List Bool) → FlagsOk m valid → FlagsOk m (tail valid)
flags_tail m valid (inl e) = inl e
flags_tail m valid (inr e) = inr (ap tail e)

pub flag_head : (m : Bool) (valid : List Bool) → FlagsOk m valid → flag_fits (head_or true valid) m ≡ true
flag_head m [] h = refl
flag_head m (true ∷ valid) h = refl
flag_head m (false ∷ valid) (inl e) = e
flag_head m (false ∷ valid) (inr e) = cc

-- ---- lists

pub list_rows_fit : (t : Ty) (m : Bool) (es : List CellData) (offsets : List ℕ) (valid : List Bool) → all_by (fits t) es ≡ true → FlagsOk m valid
    → all_by (list_fits m (fits t)) (list_rows es offsets valid) ≡ true
list_rows_fit t m es [] valid g h = refl
list_rows_fit t m es (a ∷ []) valid g h = refl
list_rows_fit t m es (a ∷ b ∷ offsets) valid g h =
    and_from (flag_fits (head_or true valid) m && all_by (fits t) (items (trees_of (take (b - a) (drop a es))))) (all_by (list_fits m (fits t)) (list_rows es (b ∷ offsets) (tail valid)))
    (and_from (flag_fits (head_or true valid) m) (all_by (fits t) (items (trees_of (take (b - a) (drop a es)))))
    (flag_head m valid h)
    (ap (all_by (fits t)) (items_trees_of (take (b - a) (drop a es))) ∙ all_take (fits t) (b - a) (drop a es) (all_drop (fits t) a es g)))
    (list_rows_fit t m es (b ∷ offsets) (tail valid) g (flags_tail m valid h))

-- ---- structs

-- each field's column fits and has so many rows
abbrev pub ColumnsFit : Tys → List (List CellData) → ℕ → Type 0
ColumnsFit no_fields [] n = Unit {0}
ColumnsFit no_fields (c ∷ cs) n = ⊥
ColumnsFit (field name t fs) [] n = ⊥
ColumnsFit (field name t fs) (c ∷ cs) n = (all_by (fits t) c ≡ true) × (length c ≡ n) × ColumnsFit fs cs n

heads_fit : (fs : Tys) (columns : List (List CellData)) (n : ℕ) → ColumnsFit fs columns (suc n) → fields_fit fs (map (head_or null_cell) columns) ≡ true
heads_fit no_fields [] n h = refl
heads_fit no_fields (c ∷ cs) n h = absurd h
heads_fit (field name t fs) [] n h = absurd h
heads_fit (field name t fs) ([] ∷ cs) n h = let e : 0 ≡ suc n = h.1 in absurd (omega arith)
heads_fit (field name t fs) ((x ∷ c) ∷ cs) n h = and_from (fits t x) (fields_fit fs (map (head_or null_cell) cs)) (and_parts (fits t x) (all_by (fits t) c) h.0).0 (heads_fit fs cs n h.2)

tails_fit : (fs : Tys) (columns : List (List CellData)) (n : ℕ) → ColumnsFit fs columns (suc n) → ColumnsFit fs (map tail columns) n
tails_fit no_fields [] n h = tt
tails_fit no_fields (c ∷ cs) n h = absurd h
tails_fit (field name t fs) [] n h = absurd h
tails_fit (field name t fs) ([] ∷ cs) n h = let e : 0 ≡ suc n = h.1 in absurd (omega arith)
tails_fit (field name t fs) ((x ∷ c) ∷ cs) n h = ((and_parts (fits t x) (all_by (fits t) c) h.0).1, (let e : suc (length c) ≡ suc n = h.1 in omega arith), tails_fit fs cs n h.2)

pub struct_rows_fit : (fs : Tys) (m : Bool) (n : ℕ) (columns : List (List CellData)) (valid : List Bool) → ColumnsFit fs columns n → FlagsOk m valid
    → all_by (struct_fits m (fields_fit fs)) (struct_rows n columns valid) ≡ true
struct_rows_fit fs m zero columns valid g h = refl
struct_rows_fit fs m (suc n) columns valid g h =
    and_from (flag_fits (head_or true valid) m && fields_fit fs (items (trees_of (map (head_or null_cell) columns)))) (all_by (struct_fits m (fields_fit fs)) (struct_rows n (map tail columns) (tail valid)))
    (and_from (flag_fits (head_or true valid) m) (fields_fit fs (items (trees_of (map (head_or null_cell) columns))))
    (flag_head m valid h) (ap (fields_fit fs) (items_trees_of (map (head_or null_cell) columns)) ∙ heads_fit fs columns n g))
    (struct_rows_fit fs m n (map tail columns) (tail valid) (tails_fit fs columns n g) (flags_tail m valid h))
