-- The tree of a layout: each node with its kind, its type, its rows, its segments and its children.
-- The segments are of any type: a path before they have numbers, then a number.
use Rattle.std.specs.Prelude.{ℕ, Bool, false, List, [], ◌∷◌, map, codes, Option}
use Rattle.vx_model.specs.declared.encoding.EncodingId.{EncodingId}
use Rattle.vx_model.specs.Ty.{Ty}
use Rattle.vx_layout_spec.specs.Refusal.{Refusal}

-- an aggregate of a zone table as a layout's metadata names it
pub record Spec : Type 0 where
  pub id : List ℕ
  pub options : List ℕ

pub data Kind : Type 0 where
  -- the encodings that its segment may use, and the array tree where it is kept
  flat_kind : List EncodingId → Option (List ℕ) → Kind
  chunked_kind : Kind
  -- validity where the type is nullable, then the fields
  struct_kind : Kind
  -- elements, offsets, validity where the type is nullable
  list_kind : Kind
  -- values, codes; whether all values are referenced
  dict_kind : Bool → Kind
  -- data, zones; the zone length and the aggregates of the table's columns
  zoned_kind : ℕ → List Spec → Kind
  -- data, zones of an unknown form: metadata that names an aggregate that isn't known, as it was found
  unread_zoned_kind : List ℕ → Kind
  -- data, zones; the zone length and the numbers of the statistics
  stats_kind : ℕ → List ℕ → Kind
  -- any id, with the metadata as it was found
  foreign_kind : List ℕ → List ℕ → Kind
  -- a node that was read from bytes and can't be built: whether it would be flat, and the refusal
  refused_kind : Bool → Refusal → Kind

mutual
  -- kind, type, rows, segments, children in slot order
  pub data LayoutData (A : Type 0) : Type 0 where
    layout : Kind → Ty → ℕ → List A → LayoutList A → LayoutData A

  pub data LayoutList (A : Type 0) : Type 0 where
    no_layouts : LayoutList A
    child : LayoutData A → LayoutList A → LayoutList A

abbrev pub lays_of : {A : Type 0} → List (LayoutData A) → LayoutList A
lays_of [] = no_layouts
lays_of (l ∷ ls) = child l (lays_of ls)

abbrev pub lays_in : {A : Type 0} → LayoutList A → List (LayoutData A)
lays_in no_layouts = []
lays_in (child l ls) = l ∷ lays_in ls

abbrev pub layout_kind : {A : Type 0} → LayoutData A → Kind
layout_kind (layout k t n names ls) = k

abbrev pub layout_type : {A : Type 0} → LayoutData A → Ty
layout_type (layout k t n names ls) = t

-- rows of the layout
abbrev pub row_count : {A : Type 0} → LayoutData A → ℕ
row_count (layout k t n names ls) = n

abbrev pub segments_of : {A : Type 0} → LayoutData A → List A
segments_of (layout k t n names ls) = names

abbrev pub children_of : {A : Type 0} → LayoutData A → List (LayoutData A)
children_of (layout k t n names ls) = lays_in ls

-- the layouts that writing makes

abbrev pub flat_layout : {A : Type 0} → Ty → ℕ → List EncodingId → Option (List ℕ) → A → LayoutData A
flat_layout t n encodings tree name = layout (flat_kind encodings tree) t n (name ∷ []) no_layouts

abbrev pub chunked_layout : {A : Type 0} → Ty → ℕ → List (LayoutData A) → LayoutData A
chunked_layout t n ls = layout chunked_kind t n [] (lays_of ls)

-- one layout is given itself; none or several are chunked
abbrev pub gathered : {A : Type 0} → Ty → ℕ → List (LayoutData A) → LayoutData A
gathered t n [] = chunked_layout t n []
gathered t n (l ∷ []) = l
gathered t n (l ∷ k ∷ ls) = chunked_layout t n (l ∷ k ∷ ls)

abbrev pub struct_layout : {A : Type 0} → Ty → ℕ → List (LayoutData A) → LayoutData A
struct_layout t n ls = layout struct_kind t n [] (lays_of ls)

abbrev pub list_layout : {A : Type 0} → Ty → ℕ → List (LayoutData A) → LayoutData A
list_layout t n ls = layout list_kind t n [] (lays_of ls)

abbrev pub dict_layout : {A : Type 0} → Ty → ℕ → LayoutData A → LayoutData A → LayoutData A
dict_layout t n values codes = layout (dict_kind false) t n [] (child values (child codes no_layouts))

abbrev pub zoned_layout : {A : Type 0} → Ty → ℕ → ℕ → List Spec → LayoutData A → LayoutData A → LayoutData A
zoned_layout t n zone_len specs data_child zones = layout (zoned_kind zone_len specs) t n [] (child data_child (child zones no_layouts))

-- the same tree with each segment renamed
abbrev mutual
  pub renamed : {A B : Type 0} → (A → B) → LayoutData A → LayoutData B
  renamed f (layout k t n names ls) = layout k t n (map f names) (each_renamed f ls)

  pub each_renamed : {A B : Type 0} → (A → B) → LayoutList A → LayoutList B
  each_renamed f no_layouts = no_layouts
  each_renamed f (child l ls) = child (renamed f l) (each_renamed f ls)

-- a kind's id
abbrev pub kind_id : Kind → List ℕ
kind_id (flat_kind encodings tree) = codes "vortex.flat"
kind_id chunked_kind = codes "vortex.chunked"
kind_id struct_kind = codes "vortex.struct"
kind_id list_kind = codes "vortex.list"
kind_id (dict_kind all) = codes "vortex.dict"
kind_id (zoned_kind zone_len specs) = codes "vortex.zoned"
kind_id (unread_zoned_kind metadata) = codes "vortex.zoned"
kind_id (stats_kind zone_len stats) = codes "vortex.stats"
kind_id (foreign_kind id metadata) = id
kind_id (refused_kind is_flat refusal) = []
