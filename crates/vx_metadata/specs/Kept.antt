-- The metadata of a layout, by its kind.
use Rattle.std.specs.Prelude.{ℕ, ◌^◌, Bool, false, List, [], ◌∷◌, ◌++◌}
use Rattle.std.specs.Int.{w32, to_le_bytes}
use Rattle.vx_model.specs.declared.ptype.PType.{PType}
use Rattle.vx_model.specs.declared.ptype.PType.TheVariants.{U64}
use Rattle.vx_model.specs.Words.{total_by}
use Rattle.vx_model.specs.Ty.{Ty, boolean, primitive, utf8, binary, list, struct, extension, nullable}
use Rattle.vx_layout_spec.specs.LayoutTree.{Kind, flat_kind, chunked_kind, struct_kind, list_kind, dict_kind, zoned_kind, unread_zoned_kind, stats_kind, foreign_kind, refused_kind, LayoutData, layout_kind, layout_type, children_of}
use Rattle.vx_metadata.specs.declared.dict.DictLayoutMetadata.{DictLayoutMetadata}
use Rattle.vx_metadata.specs.declared.list.ListLayoutMetadata.{ListLayoutMetadata}
use Rattle.vx_metadata.specs.Values.{Zoned}
use Rattle.vx_metadata.specs.Spelled.{flat_bytes, dict_bytes, list_bytes, zoned_bytes}

-- the type of the second child: of a list's offsets, of a dictionary's codes
abbrev pub second_type : List (LayoutData ℕ) → Ty
second_type [] = boolean false
second_type (l ∷ []) = boolean false
second_type (l ∷ m ∷ ls) = layout_type m

-- the integers of the type; U64 where it has none
abbrev pub integers_of : Ty → PType
integers_of (boolean n) = U64
integers_of (primitive p n) = p
integers_of (utf8 n) = U64
integers_of (binary n) = U64
integers_of (list t n) = U64
integers_of (struct fs n) = U64
integers_of (extension tag t) = U64

abbrev pub offsets_kept : Ty → ListLayoutMetadata
offsets_kept t = record { offsets_ptype = integers_of t }

abbrev pub codes_kept : Ty → Bool → DictLayoutMetadata
codes_kept t all = record { codes_ptype = integers_of t; is_nullable_codes = nullable t; all_values_referenced = all }

-- the bit of the statistic of this number
abbrev pub number_bit : ℕ → ℕ
number_bit k = 2 ^ k

-- the zone length, and a byte with a bit for each statistic
abbrev pub stats_bytes : ℕ → List ℕ → List ℕ
stats_bytes zone_len stats = to_le_bytes w32 zone_len ++ (total_by number_bit stats ∷ [])

-- of a kind whose second child has the type
abbrev pub kind_metadata : Kind → Ty → List ℕ
kind_metadata (flat_kind encodings tree) t = flat_bytes tree
kind_metadata chunked_kind t = []
kind_metadata struct_kind t = []
kind_metadata list_kind t = list_bytes (offsets_kept t)
kind_metadata (dict_kind all) t = dict_bytes (codes_kept t all)
kind_metadata (zoned_kind zone_len specs) t = zoned_bytes (record { zone_len = zone_len; specs = specs })
kind_metadata (unread_zoned_kind metadata) t = metadata
kind_metadata (stats_kind zone_len stats) t = stats_bytes zone_len stats
kind_metadata (foreign_kind id metadata) t = metadata
kind_metadata (refused_kind is_flat refusal) t = []

abbrev pub metadata_bytes : LayoutData ℕ → List ℕ
metadata_bytes l = kind_metadata (layout_kind l) (second_type (children_of l))
