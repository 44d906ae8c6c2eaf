-- Layouts whose parts are those that the builds of their kinds ask for, in a scope.
use Rattle.std.specs.Prelude.{◌≡◌, ℕ, ◌-◌, ◌<◌, ◌^◌, Bool, true, false, List, [], ◌∷◌, map, Option, Some, None, Result, Ok, IsTrue}
use Rattle.vx_model.specs.declared.encoding.EncodingId.{EncodingId}
use Rattle.vx_model.specs.declared.ptype.PType.{PType}
use Rattle.vx_model.specs.Words.{total_by}
use Rattle.vx_model.specs.Ty.{Ty, primitive, struct, no_fields, is_list, is_struct}
use Rattle.vx_layout_spec.specs.LayoutTree.{Spec, Kind, flat_kind, chunked_kind, struct_kind, list_kind, dict_kind, zoned_kind, unread_zoned_kind, stats_kind, foreign_kind, refused_kind, LayoutData, LayoutList, layout, no_layouts, child, lays_in, layout_type, row_count}
use Rattle.vx_aggregate_spec.specs.Aggregate.{Aggregate, spec}
use Rattle.vx_aggregate.specs.declared.stat.Stat.{Stat}
use Rattle.vx_aggregate.specs.Stats.{stat_number}
use Rattle.vx_aggregate.specs.Tables.{stats_table, legacy_table}
use Rattle.vx_metadata.specs.Reading.{zoned_in}
use Rattle.vx_metadata.specs.Values.{Zoned, IsZoned, are_in_order}
use Rattle.vx_session.specs.declared.encoding.LayoutEncoding.{LayoutEncoding}
use Rattle.vx_session.specs.declared.encoding.LayoutEncoding.TheVariants as kinds
use Rattle.vx_session.specs.Encodings.{layout_id, kind_of}
use Rattle.vx_session.specs.Scope.{Scope}
use Rattle.vx_session.specs.Kinds.{struct_types, validity_types, element_type, read_specs}

-- the kind is registered
abbrev pub Knows : Scope → LayoutEncoding → Type 0
Knows s kind = kind_of (layout_id kind) s.registered ≡ Some kind

abbrev pub types_of : List (LayoutData ℕ) → List Ty
types_of [] = []
types_of (l ∷ ls) = layout_type l ∷ types_of ls

-- each is of the type
abbrev pub AreOf : Ty → List (LayoutData ℕ) → Type 0
AreOf t [] = Unit {0}
AreOf t (l ∷ ls) = (layout_type l ≡ t) × AreOf t ls

-- each has so many rows
abbrev pub HaveRows : ℕ → List (LayoutData ℕ) → Type 0
HaveRows n [] = Unit {0}
HaveRows n (l ∷ ls) = (row_count l ≡ n) × HaveRows n ls

-- ---- a node by its kind: of the type t, of n rows, with the children ls

-- one segment, and the scope's encodings
pub record SoundFlat (s : Scope) (encodings : List EncodingId) (names : List ℕ) (ls : List (LayoutData ℕ)) : Type 0 where
  pub known : Knows s kinds.Flat
  pub listed : encodings ≡ s.context.encodings
  pub segment : ℕ
  pub one : names ≡ segment ∷ []
  pub alone : ls ≡ []

pub record SoundChunked (s : Scope) (t : Ty) (n : ℕ) (ls : List (LayoutData ℕ)) : Type 0 where
  pub known : Knows s kinds.Chunked
  pub types : AreOf t ls
  pub rows : total_by row_count ls ≡ n

pub record SoundStruct (s : Scope) (t : Ty) (n : ℕ) (ls : List (LayoutData ℕ)) : Type 0 where
  pub known : Knows s kinds.Struct
  pub of_structs : is_struct t ≡ true
  pub types : types_of ls ≡ struct_types t
  pub rows : HaveRows n ls

-- an offset more than rows
pub record SoundList (s : Scope) (t : Ty) (n : ℕ) (ls : List (LayoutData ℕ)) : Type 0 where
  pub known : Knows s kinds.List
  pub of_lists : is_list t ≡ true
  pub elements : LayoutData ℕ
  pub offsets : LayoutData ℕ
  pub validity : List (LayoutData ℕ)
  pub are : ls ≡ elements ∷ offsets ∷ validity
  pub integers : PType
  pub types : types_of ls ≡ element_type t ∷ primitive integers false ∷ validity_types t
  pub rows : row_count offsets - 1 ≡ n
  pub flags : HaveRows n validity

pub record SoundDict (s : Scope) (t : Ty) (n : ℕ) (ls : List (LayoutData ℕ)) : Type 0 where
  pub known : Knows s kinds.Dict
  pub values : LayoutData ℕ
  pub places : LayoutData ℕ
  pub are : ls ≡ values ∷ places ∷ []
  pub integers : PType
  pub nullable : Bool
  pub types : types_of ls ≡ t ∷ primitive integers nullable ∷ []
  pub rows : row_count places ≡ n

-- the scope knows the aggregates, and the zones are their table
pub record SoundZoned (s : Scope) (zone_len : ℕ) (specs : List Spec) (t : Ty) (n : ℕ) (ls : List (LayoutData ℕ)) : Type 0 where
  pub known : Knows s kinds.Zoned
  pub fits : IsZoned (record { zone_len = zone_len; specs = specs })
  pub aggregates : List Aggregate
  pub read : read_specs s.context specs ≡ Ok (Some aggregates)
  pub named : map spec aggregates ≡ specs
  pub column : LayoutData ℕ
  pub zones : LayoutData ℕ
  pub are : ls ≡ column ∷ zones ∷ []
  pub types : types_of ls ≡ t ∷ stats_table t aggregates ∷ []
  pub rows : row_count column ≡ n

-- the scope doesn't know an aggregate, and lets it through
pub record SoundUnread (s : Scope) (metadata : List ℕ) (t : Ty) (n : ℕ) (ls : List (LayoutData ℕ)) : Type 0 where
  pub known : Knows s kinds.Zoned
  pub zoned : Zoned
  pub spelled : zoned_in metadata ≡ Some zoned
  pub read : read_specs s.context zoned.specs ≡ Ok None
  pub column : LayoutData ℕ
  pub zones : LayoutData ℕ
  pub are : ls ≡ column ∷ zones ∷ []
  pub types : types_of ls ≡ t ∷ struct no_fields false ∷ []
  pub rows : row_count column ≡ n

pub record SoundStats (s : Scope) (zone_len : ℕ) (numbers : List ℕ) (t : Ty) (ls : List (LayoutData ℕ)) : Type 0 where
  pub known : Knows s kinds.LegacyStats
  pub short : zone_len < 2 ^ 32
  pub stats : List Stat
  pub order : IsTrue (are_in_order stats)
  pub numbered : numbers ≡ map stat_number stats
  pub column : LayoutData ℕ
  pub zones : LayoutData ℕ
  pub are : ls ≡ column ∷ zones ∷ []
  pub types : types_of ls ≡ t ∷ legacy_table t stats ∷ []

-- the id isn't registered, and let through
pub record SoundForeign (s : Scope) (id : List ℕ) : Type 0 where
  pub unknown : kind_of id s.registered ≡ None
  pub allowed : s.allow_unknown ≡ true

abbrev pub SoundNode : Scope → Kind → Ty → ℕ → List ℕ → List (LayoutData ℕ) → Type 0
SoundNode s (flat_kind encodings tree) t n names ls = SoundFlat s encodings names ls
SoundNode s chunked_kind t n names ls = SoundChunked s t n ls
SoundNode s struct_kind t n names ls = SoundStruct s t n ls
SoundNode s list_kind t n names ls = SoundList s t n ls
SoundNode s (dict_kind all) t n names ls = SoundDict s t n ls
SoundNode s (zoned_kind zone_len specs) t n names ls = SoundZoned s zone_len specs t n ls
SoundNode s (unread_zoned_kind metadata) t n names ls = SoundUnread s metadata t n ls
SoundNode s (stats_kind zone_len stats) t n names ls = SoundStats s zone_len stats t ls
SoundNode s (foreign_kind id metadata) t n names ls = SoundForeign s id
SoundNode s (refused_kind is_flat refusal) t n names ls = ⊥

-- ---- trees

abbrev pub IsForeignKind : Kind → Type 0
IsForeignKind (flat_kind encodings tree) = ⊥
IsForeignKind chunked_kind = ⊥
IsForeignKind struct_kind = ⊥
IsForeignKind list_kind = ⊥
IsForeignKind (dict_kind all) = ⊥
IsForeignKind (zoned_kind zone_len specs) = ⊥
IsForeignKind (unread_zoned_kind metadata) = ⊥
IsForeignKind (stats_kind zone_len stats) = ⊥
IsForeignKind (foreign_kind id metadata) = Unit {0}
IsForeignKind (refused_kind is_flat refusal) = ⊥

-- foreign, with all below, of one type
abbrev mutual
  pub IsForeign : Ty → LayoutData ℕ → Type 0
  IsForeign t (layout k u n names ls) = IsForeignKind k × (u ≡ t) × AreForeign t ls

  pub AreForeign : Ty → LayoutList ℕ → Type 0
  AreForeign t no_layouts = Unit {0}
  AreForeign t (child l ls) = IsForeign t l × AreForeign t ls

-- below a foreign node, and below others
abbrev pub below : Kind → Type 0 → Type 0 → Type 0
below (flat_kind encodings tree) foreign others = others
below chunked_kind foreign others = others
below struct_kind foreign others = others
below list_kind foreign others = others
below (dict_kind all) foreign others = others
below (zoned_kind zone_len specs) foreign others = others
below (unread_zoned_kind metadata) foreign others = others
below (stats_kind zone_len stats) foreign others = others
below (foreign_kind id metadata) foreign others = foreign
below (refused_kind is_flat refusal) foreign others = others

abbrev mutual
  pub Sound : Scope → LayoutData ℕ → Type 0
  Sound s (layout k t n names ls) = SoundNode s k t n names (lays_in ls) × below k (AreForeign t ls) (AreSound s ls)

  pub AreSound : Scope → LayoutList ℕ → Type 0
  AreSound s no_layouts = Unit {0}
  AreSound s (child l ls) = Sound s l × AreSound s ls
