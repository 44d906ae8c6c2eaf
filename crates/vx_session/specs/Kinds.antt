-- What each kind is built into, and what it refuses first.
use Rattle.std.specs.Prelude.{ℕ, ◌+◌, ◌-◌, ◌&&◌, Bool, false, if◌then◌else◌, List, [], ◌∷◌, ◌++◌, codes, length, map, Option, Some, None, Result, Ok, Err}
use Rattle.vx_model.specs.declared.ptype.PType.{PType}
use Rattle.vx_model.specs.Words.{total_by}
use Rattle.vx_model.specs.Ty.{Ty, Tys, boolean, primitive, struct, no_fields, field, nullable, is_list, is_struct}
use Rattle.vx_model.specs.Ty as types
use Rattle.vx_layout_spec.specs.LayoutTree.{LayoutData, layout, Spec, Kind, flat_layout, chunked_kind, struct_kind, list_kind, dict_kind, zoned_kind, unread_zoned_kind, stats_kind, lays_of, row_count}
use Rattle.vx_layout_spec.specs.Refusal.{Refusal, no_list, no_struct, unknown_aggregate}
use Rattle.vx_aggregate_spec.specs.Aggregate.{Aggregate, aggregate_of, spec}
use Rattle.vx_aggregate.specs.Stats.{stat_number}
use Rattle.vx_aggregate.specs.Tables.{stats_table, legacy_table}
use Rattle.vx_metadata.specs.Reading.{flat_in, list_in, dict_in, zoned_in, legacy_in}
use Rattle.vx_session.specs.declared.encoding.LayoutEncoding.{LayoutEncoding}
use Rattle.vx_session.specs.declared.encoding.LayoutEncoding.TheVariants as kinds
use Rattle.vx_session.specs.Ids.{is_listed}
use Rattle.vx_session.specs.Scope.{Context}
use Rattle.vx_session.specs.Made.{Made, ◌>>=◌, needs, spelled, ChildData, kid_rows, child_at, rows_at, all_stand, each_stands, standing_at, has_children, has_rows, all_have_rows, one_segment}

pub record Parts : Type 0 where
  pub dtype : Ty
  pub rows : ℕ
  pub segments : List ℕ
  pub kids : List ChildData

-- a layout of the parts with these children
abbrev pub layout_of : Kind → Parts → List (LayoutData ℕ) → Made
layout_of k p ls = Ok (layout k p.dtype p.rows p.segments (lays_of ls))

-- a chunked and a struct layout have no metadata
abbrev pub nothing_in : List ℕ → Option (Unit {0})
nothing_in [] = Some tt
nothing_in (b ∷ bytes) = None

unfoldable pub build_flat : Context → Parts → List ℕ → Made
build_flat c p metadata = do
  tree ← spelled metadata (flat_in metadata)
  segment ← one_segment p.segments
  none ← has_children 0 p.kids
  Ok (flat_layout p.dtype p.rows c.encodings tree segment)

unfoldable pub build_chunked : Parts → List ℕ → Made
build_chunked p metadata = do
  nothing ← spelled metadata (nothing_in metadata)
  rows ← has_rows (total_by kid_rows p.kids) p.rows
  layout_of chunked_kind p (all_stand p.dtype p.kids)

-- ---- structs

abbrev pub types_in : Tys → List Ty
types_in no_fields = []
types_in (field name t fs) = t ∷ types_in fs

abbrev pub field_types : Ty → List Ty
field_types (struct fs n) = types_in fs
field_types t = []

-- the validity is not nullable
abbrev pub validity_type : Ty
validity_type = boolean false

abbrev pub validity_types : Ty → List Ty
validity_types t = if nullable t then validity_type ∷ [] else []

-- validity where the type is nullable, then the fields
abbrev pub struct_types : Ty → List Ty
struct_types t = validity_types t ++ field_types t

unfoldable pub build_struct : Parts → List ℕ → Made
build_struct p metadata = do
  nothing ← spelled metadata (nothing_in metadata)
  fields ← needs (is_struct p.dtype) no_struct
  count ← has_children (length (struct_types p.dtype)) p.kids
  rows ← all_have_rows p.rows p.kids
  layout_of struct_kind p (each_stands (struct_types p.dtype) p.kids)

-- ---- lists

-- the type of a list's elements, or the type itself
abbrev pub element_type : Ty → Ty
element_type (types.list t n) = t
element_type t = t

-- of the rows that its type needs
abbrev pub build_validity : Parts → Result (List (LayoutData ℕ)) Refusal
build_validity p =
    if nullable p.dtype
    then (do
      validity ← child_at p.kids 2 validity_type
      rows ← has_rows (row_count validity) p.rows
      Ok (validity ∷ []))
    else Ok []

-- with offsets of the integer type; there is an offset more than rows
unfoldable pub build_offsets : Parts → PType → Made
build_offsets p offsets = do
  count ← has_children (2 + length (validity_types p.dtype)) p.kids
  elements ← child_at p.kids 0 (element_type p.dtype)
  ends ← child_at p.kids 1 (primitive offsets false)
  rows ← has_rows (row_count ends - 1) p.rows
  validity ← build_validity p
  layout_of list_kind p (elements ∷ ends ∷ validity)

unfoldable pub build_list : Parts → List ℕ → Made
build_list p metadata = do
  offsets ← spelled metadata (list_in metadata)
  of_lists ← needs (is_list p.dtype) no_list
  build_offsets p offsets.offsets_ptype

-- ---- dictionaries

unfoldable pub build_dict : Parts → List ℕ → Made
build_dict p metadata = do
  dict ← spelled metadata (dict_in metadata)
  count ← has_children 2 p.kids
  values ← child_at p.kids 0 p.dtype
  places ← child_at p.kids 1 (primitive dict.codes_ptype dict.is_nullable_codes)
  rows ← has_rows (row_count places) p.rows
  layout_of (dict_kind dict.all_values_referenced) p (values ∷ places ∷ [])

-- ---- tables of zones

-- whether an aggregate has the id
abbrev pub names_aggregate : List ℕ → Bool
names_aggregate id = is_listed id (codes "vortex.max" ∷ codes "vortex.min" ∷ codes "vortex.bounded_max" ∷ codes "vortex.bounded_min" ∷ codes "vortex.null_count" ∷ codes "vortex.sum" ∷ codes "vortex.bloom_filter.sbbf" ∷ [])

-- the aggregate with its options
abbrev pub with_options : Spec → Option Aggregate → Result (Option Aggregate) Refusal
with_options s None = Err (unknown_aggregate s.id)
with_options s (Some a) = Ok (Some a)

-- nothing for an unknown one, where those are let through
abbrev pub let_through : Context → Spec → Result (Option Aggregate) Refusal
let_through c s = if c.allow_unknown then Ok None else Err (unknown_aggregate s.id)

unfoldable pub read_spec : Context → Spec → Result (Option Aggregate) Refusal
read_spec c s =
    if is_listed s.id c.aggregates && names_aggregate s.id then with_options s (aggregate_of s)
    else let_through c s

abbrev pub in_front : Aggregate → Option (List Aggregate) → Result (Option (List Aggregate)) Refusal
in_front a None = Ok None
in_front a (Some others) = Ok (Some (a ∷ others))

-- what stands behind an unknown one isn't looked at
abbrev pub read_on : Option Aggregate → Result (Option (List Aggregate)) Refusal → Result (Option (List Aggregate)) Refusal
read_on None others = Ok None
read_on (Some a) others = others >>= in_front a

abbrev pub read_specs : Context → List Spec → Result (Option (List Aggregate)) Refusal
read_specs c [] = Ok (Some [])
read_specs c (s ∷ specs) = read_spec c s >>= λ one. read_on one (read_specs c specs)

-- Where an aggregate is unknown the zones aren't built, and stand as a table without columns.
abbrev pub build_zones : Parts → List ℕ → ℕ → Option (List Aggregate) → Made
build_zones p metadata zone_len None = do
  column ← child_at p.kids 0 p.dtype
  layout_of (unread_zoned_kind metadata) p (column ∷ standing_at p.kids 1 (struct no_fields false))
build_zones p metadata zone_len (Some aggregates) = do
  column ← child_at p.kids 0 p.dtype
  zones ← child_at p.kids 1 (stats_table p.dtype aggregates)
  layout_of (zoned_kind zone_len (map spec aggregates)) p (column ∷ zones ∷ [])

unfoldable pub build_zoned : Context → Parts → List ℕ → Made
build_zoned c p metadata = do
  zoned ← spelled metadata (zoned_in metadata)
  count ← has_children 2 p.kids
  rows ← has_rows (rows_at p.kids 0) p.rows
  aggregates ← read_specs c zoned.specs
  build_zones p metadata zoned.zone_len aggregates

unfoldable pub build_stats : Parts → List ℕ → Made
build_stats p metadata = do
  stats ← spelled metadata (legacy_in metadata)
  count ← has_children 2 p.kids
  column ← child_at p.kids 0 p.dtype
  zones ← child_at p.kids 1 (legacy_table p.dtype stats.1)
  layout_of (stats_kind stats.0 (map stat_number stats.1)) p (column ∷ zones ∷ [])

-- ---- of any kind

abbrev pub build_kind : LayoutEncoding → Context → Parts → List ℕ → Made
build_kind kinds.Flat c p metadata = build_flat c p metadata
build_kind kinds.Chunked c p metadata = build_chunked p metadata
build_kind kinds.Struct c p metadata = build_struct p metadata
build_kind kinds.List c p metadata = build_list p metadata
build_kind kinds.Dict c p metadata = build_dict p metadata
build_kind kinds.Zoned c p metadata = build_zoned c p metadata
build_kind kinds.LegacyStats c p metadata = build_stats p metadata
