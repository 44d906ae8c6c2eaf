-- One walk over a strategy and a type, for all that is read off them.
use Rattle.std.specs.Prelude.{ℕ, ◌&&◌, bytes_eq, Bool, true, false, if◌then◌else◌, List, [], ◌∷◌, ◌++◌, Option, Some, None}
use Rattle.vx_model.specs.Ty.{Ty, Tys, boolean, primitive, utf8, binary, list, struct, extension, no_fields, field}
use Rattle.vx_model.specs.ChunkData.{is_dict_type}
use Rattle.vx_rules.specs.Columns.{offset_type}
use Rattle.vx_rules.specs.Runs.{DictOptions, code_type}
use Rattle.vx_strategy_spec.specs.StrategyData.{StrategyData, StrategyList, Wraps, FlatOptions, ZonedOptions, Grouping, flat, chunked, grouped, compressed, coded, zoned, structured, listed, tabled, no_ways, way_at, no_wraps, wrap_grouped, wrap_zoned}

-- what is made of each node, from what is made of its children
pub record Nodes (A : Type 0) : Type 0 where
  pub on_flat : FlatOptions → Ty → A
  pub on_chunked : Ty → A → A
  pub on_grouped : Grouping → Ty → A → A
  pub on_compressed : ℕ → ℕ → Ty → A → A
  -- codes, values, fallback
  pub on_dict : DictOptions → Ty → A → A → A → A
  -- the table at any type
  pub on_zoned : ZonedOptions → Ty → A → (Ty → A) → A
  pub on_not_struct : Ty → A
  -- fields, nullable, the first repeated name, validity, each field
  pub on_struct : Tys → Bool → Option (List ℕ) → A → List A → A
  -- elements' type, nullable, elements, offsets, validity
  pub on_list : Ty → Bool → A → A → A → A

-- ---- names

abbrev pub Named : Type 0 → Type 0
Named A = List (List (List ℕ) × (Ty → A))

abbrev pub same_names : List (List ℕ) → List (List ℕ) → Bool
same_names [] [] = true
same_names (a ∷ p) (b ∷ q) = bytes_eq a b && same_names p q
same_names p q = false

abbrev pub find : {A : Type 0} → List (List ℕ) → Named A → Option (Ty → A)
find path [] = None
find path (w ∷ ws) = if same_names path w.0 then Some w.1 else find path ws

abbrev pub is_name : List ℕ → List (List ℕ) → Bool
is_name a [] = false
is_name a (b ∷ names) = if bytes_eq b a then true else is_name a names

abbrev pub repeated : List (List ℕ) → Tys → Option (List ℕ)
repeated before no_fields = None
repeated before (field name t fs) = if is_name name before then Some name else repeated (before ++ (name ∷ [])) fs

-- the first name that equals one before it
abbrev pub duplicate : Tys → Option (List ℕ)
duplicate fs = repeated [] fs

-- what stands for the strategy that is found, else the given
abbrev pub chosen : {A : Type 0} → Option (Ty → A) → Ty → A → A
chosen None t k = k
chosen (Some w) t k = w t

-- ---- structs and lists

abbrev pub field_nodes : {A : Type 0} → (Ty → A) → Named A → Tys → List A
field_nodes d ws no_fields = []
field_nodes d ws (field name t fs) = chosen (find (name ∷ []) ws) t (d t) ∷ field_nodes d ws fs

abbrev pub of_struct : {A : Type 0} → Nodes A → (Ty → A) → (Ty → A) → Named A → Ty → A
of_struct on v d ws (struct fs n) = on.on_struct fs n (duplicate fs) (v (boolean false)) (field_nodes d ws fs)
of_struct on v d ws t = on.on_not_struct t

abbrev pub of_list : {A : Type 0} → Nodes A → (Ty → A) → (Ty → A) → (Ty → A) → (Ty → A) → Ty → A
of_list on e o v f (list t n) = on.on_list t n (e t) (o offset_type) (v (boolean false))
of_list on e o v f t = f t

-- ---- dictionaries: types that they can't hold go to the fallback

abbrev pub of_dict : {A : Type 0} → Nodes A → DictOptions → (Ty → A) → (Ty → A) → (Ty → A) → Ty → A
of_dict on o c v f t = if is_dict_type t then on.on_dict o t (c (code_type o)) (v t) (f t) else f t

-- ---- tables

-- what wraps a list, where lists are laid out as lists
abbrev pub Around : Type 0 → Type 0
Around A = Option (Ty → A → A)

abbrev pub in_lists : {A : Type 0} → Around A → Ty → A → A → A
in_lists None t leaf k = leaf
in_lists (Some f) t leaf k = f t k

-- A struct's field whose path has an override goes to it, every other to the same table; the elements of a list go to
-- the same table without overrides; every other type goes to the leaf.
abbrev mutual
  pub of_table : {A : Type 0} → Nodes A → (Ty → A) → (Ty → A) → Around A → Named A → List (List ℕ) → Ty → A
  of_table on v l f ws walked (struct fs n) = on.on_struct fs n (duplicate fs) (v (boolean false)) (of_tables on v l f ws walked fs)
  of_table on v l f ws walked (list t n) = in_lists f (list t n) (l (list t n)) (on.on_list t n (of_table on v l f [] [] t) (l offset_type) (v (boolean false)))
  of_table on v l f ws walked (boolean n) = l (boolean n)
  of_table on v l f ws walked (primitive p n) = l (primitive p n)
  of_table on v l f ws walked (utf8 n) = l (utf8 n)
  of_table on v l f ws walked (binary n) = l (binary n)
  of_table on v l f ws walked (extension tag t) = l (extension tag t)

  pub of_tables : {A : Type 0} → Nodes A → (Ty → A) → (Ty → A) → Around A → Named A → List (List ℕ) → Tys → List A
  of_tables on v l f ws walked no_fields = []
  of_tables on v l f ws walked (field name t fs) =
      chosen (find (walked ++ (name ∷ [])) ws) t (of_table on v l f ws (walked ++ (name ∷ [])) t) ∷ of_tables on v l f ws walked fs

-- ---- the walk

abbrev mutual
  pub walk : {A : Type 0} → Nodes A → StrategyData → Ty → A
  walk on (flat o) t = on.on_flat o t
  walk on (chunked w) t = on.on_chunked t (walk on w t)
  walk on (grouped g w) t = on.on_grouped g t (walk on w t)
  walk on (compressed which room w) t = on.on_compressed which room t (walk on w t)
  walk on (coded o c v f) t = of_dict on o (walk on c) (walk on v) (walk on f) t
  walk on (zoned o w stats) t = on.on_zoned o t (walk on w t) (walk on stats)
  walk on (structured v d ws) t = of_struct on (walk on v) (walk on d) (walk_named on ws) t
  walk on (listed e o v f) t = of_list on (walk on e) (walk on o) (walk on v) (walk on f) t
  walk on (tabled v l ws lists wraps) t = of_table on (walk on v) (walk on l) (if lists then Some (walk_wraps on wraps) else None) (walk_named on ws) [] t

  pub walk_named : {A : Type 0} → Nodes A → StrategyList → Named A
  walk_named on no_ways = []
  walk_named on (way_at path w ws) = (path, walk on w) ∷ walk_named on ws

  pub walk_wraps : {A : Type 0} → Nodes A → Wraps → Ty → A → A
  walk_wraps on no_wraps t k = k
  walk_wraps on (wrap_grouped g ws) t k = on.on_grouped g t (walk_wraps on ws t k)
  walk_wraps on (wrap_zoned o stats ws) t k = on.on_zoned o t (walk_wraps on ws t k) (walk on stats)
