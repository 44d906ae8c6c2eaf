-- The rows that a layout gives: from its segments, by its kind. There are none where a segment is missing or isn't
-- spelled by the grammar, where counts, codes or offsets don't agree, and at a foreign node or one that can't be built.
use Rattle.std.specs.Prelude.{ℕ, zero, suc, ◌-◌, ◌==◌, Bool, true, false, if◌then◌else◌, List, [], ◌∷◌, ◌++◌, length, map, take, drop, Option, Some, None, pos}
use Rattle.vx_model.specs.declared.encoding.EncodingId.{EncodingId}
use Rattle.vx_model.specs.Words.{all_by, head_or, tail}
use Rattle.vx_model.specs.Ty.{Ty, nullable}
use Rattle.vx_model.specs.ChunkData.{are_offsets}
use Rattle.vx_model.specs.ValueData.{ValueData, null_value, bool_value, int_value, list_value, struct_value, vals_of, value}
use Rattle.vx_layout_spec.specs.LayoutTree.{Kind, flat_kind, chunked_kind, struct_kind, list_kind, dict_kind, zoned_kind, unread_zoned_kind, stats_kind, foreign_kind, refused_kind, LayoutData, LayoutList, layout, no_layouts, child}
use Rattle.vx_layout_spec.specs.Codec.{Codec}

abbrev pub and_then : {A B : Type 0} → (A → Option B) → Option A → Option B
and_then f None = None
and_then f (Some x) = f x

-- a list of values, where each is there
abbrev pub all_there : {A : Type 0} → List (Option A) → Option (List A)
all_there [] = Some []
all_there (None ∷ os) = None
all_there (Some x ∷ os) = and_then (λ xs. Some (x ∷ xs)) (all_there os)

-- the rows, where they are as many as they must be
abbrev pub counted : ℕ → List ValueData → Option (List ValueData)
counted n vs = if length vs == n then Some vs else None

-- ---- flat: the rows of the segment's chunk

abbrev pub segment_rows : Codec → List EncodingId → Ty → Option (List ℕ) → Option (List ValueData)
segment_rows c encodings t bytes = and_then (λ cs. Some (map value cs)) (and_then (c.decode encodings t) bytes)

abbrev pub flat_rows : {A : Type 0} → Codec → (A → Option (List ℕ)) → List EncodingId → Ty → List A → Option (List ValueData)
flat_rows c look encodings t [] = None
flat_rows c look encodings t (name ∷ []) = segment_rows c encodings t (look name)
flat_rows c look encodings t (name ∷ other ∷ names) = None

-- ---- chunked: the children's rows, joined

abbrev pub joined : {A : Type 0} → List (List A) → List A
joined [] = []
joined (x ∷ xs) = x ++ joined xs

abbrev pub chunked_rows : List (List ValueData) → Option (List ValueData)
chunked_rows parts = Some (joined parts)

-- ---- validity: a row is null where its flag is false

abbrev pub kept : ValueData → ValueData → ValueData
kept (bool_value false) v = null_value
kept flag v = v

abbrev pub kept_rows : List ValueData → List ValueData → List ValueData
kept_rows flags [] = []
kept_rows flags (v ∷ vs) = kept (head_or (bool_value true) flags) v ∷ kept_rows (tail flags) vs

-- the rows of a nullable node under its validity
abbrev pub under_validity : ℕ → List ValueData → List ValueData → Option (List ValueData)
under_validity n flags vs = if length flags == n then Some (kept_rows flags vs) else None

-- ---- struct: row i has row i of each field

abbrev pub zipped : ℕ → List (List ValueData) → List ValueData
zipped zero columns = []
zipped (suc n) columns = struct_value (vals_of (map (head_or null_value) columns)) ∷ zipped n (map tail columns)

abbrev pub has_count : ℕ → List ValueData → Bool
has_count n vs = length vs == n

abbrev pub fields_rows : ℕ → List (List ValueData) → Option (List ValueData)
fields_rows n columns = if all_by (has_count n) columns then Some (zipped n columns) else None

abbrev pub struct_rows : Bool → ℕ → List (List ValueData) → Option (List ValueData)
struct_rows false n columns = fields_rows n columns
struct_rows true n [] = None
struct_rows true n (flags ∷ columns) = and_then (under_validity n flags) (fields_rows n columns)

-- ---- list: row i has the elements from offset i to offset i + 1

abbrev pub offset_of : ValueData → Option ℕ
offset_of (int_value (pos n)) = Some n
offset_of v = None

-- each offset lies within the elements, and none falls
abbrev pub offsets_agree : ℕ → List ℕ → Bool
offsets_agree count [] = true
offsets_agree count (a ∷ offsets) = are_offsets count (a ∷ offsets)

abbrev pub spans : List ValueData → List ℕ → List ValueData
spans elements [] = []
spans elements (from ∷ []) = []
spans elements (from ∷ to ∷ offsets) = list_value (vals_of (take (to - from) (drop from elements))) ∷ spans elements (to ∷ offsets)

abbrev pub spans_between : List ValueData → List ℕ → Option (List ValueData)
spans_between elements offsets = if offsets_agree (length elements) offsets then Some (spans elements offsets) else None

abbrev pub lists_of : List ValueData → List ValueData → Option (List ValueData)
lists_of elements offsets = and_then (spans_between elements) (all_there (map offset_of offsets))

abbrev pub list_rows : Bool → ℕ → List (List ValueData) → Option (List ValueData)
list_rows false n (elements ∷ offsets ∷ []) = lists_of elements offsets
list_rows true n (elements ∷ offsets ∷ flags ∷ []) = and_then (under_validity n flags) (lists_of elements offsets)
list_rows valid n columns = None

-- ---- dictionary: the value at each code

abbrev pub value_at : List ValueData → ℕ → Option ValueData
value_at [] n = None
value_at (v ∷ vs) zero = Some v
value_at (v ∷ vs) (suc n) = value_at vs n

-- null for a null code
abbrev pub picked : List ValueData → ValueData → Option ValueData
picked values null_value = Some null_value
picked values (int_value (pos n)) = value_at values n
picked values code = None

abbrev pub dict_rows : List (List ValueData) → Option (List ValueData)
dict_rows (values ∷ codes ∷ []) = all_there (map (picked values) codes)
dict_rows parts = None

-- ---- zoned: the data child's; the zones aren't read

abbrev pub data_rows : List (Option (List ValueData)) → Option (List ValueData)
data_rows (rows ∷ zones ∷ []) = rows
data_rows parts = None

-- ---- by the kind, from the children's rows

abbrev pub kind_rows : {A : Type 0} → Codec → (A → Option (List ℕ)) → Kind → Ty → ℕ → List A → List (Option (List ValueData)) → Option (List ValueData)
kind_rows c look (flat_kind encodings tree) t n names parts = flat_rows c look encodings t names
kind_rows c look chunked_kind t n names parts = and_then chunked_rows (all_there parts)
kind_rows c look struct_kind t n names parts = and_then (struct_rows (nullable t) n) (all_there parts)
kind_rows c look list_kind t n names parts = and_then (list_rows (nullable t) n) (all_there parts)
kind_rows c look (dict_kind all) t n names parts = and_then dict_rows (all_there parts)
kind_rows c look (zoned_kind zone_len specs) t n names parts = data_rows parts
kind_rows c look (unread_zoned_kind metadata) t n names parts = data_rows parts
kind_rows c look (stats_kind zone_len stats) t n names parts = data_rows parts
kind_rows c look (foreign_kind id metadata) t n names parts = None
kind_rows c look (refused_kind is_flat refusal) t n names parts = None

-- the rows of a layout, `look` giving the bytes of a segment
abbrev mutual
  pub rows : {A : Type 0} → Codec → (A → Option (List ℕ)) → LayoutData A → Option (List ValueData)
  rows c look (layout k t n names ls) = and_then (counted n) (kind_rows c look k t n names (each_rows c look ls))

  pub each_rows : {A : Type 0} → Codec → (A → Option (List ℕ)) → LayoutList A → List (Option (List ValueData))
  each_rows c look no_layouts = []
  each_rows c look (child l ls) = rows c look l ∷ each_rows c look ls
