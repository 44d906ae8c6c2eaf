-- The bytes of metadata, a function a kind. Numbers have their lowest byte first.
use Rattle.std.specs.Prelude.{ℕ, ◌^◌, List, [], ◌∷◌, ◌++◌, length, Option, Some, None}
use Rattle.std.specs.Int.{w32, to_le_bytes}
use Rattle.vx_model.specs.Words.{joined_by, total_by}
use Rattle.vx_model.specs.Numbers.{ptype_number}
use Rattle.vx_model.specs.CellData.{bit}
use Rattle.vx_layout_spec.specs.LayoutTree.{Spec}
use Rattle.vx_aggregate.specs.declared.stat.Stat.{Stat}
use Rattle.vx_aggregate.specs.declared.stat.Stat.TheVariants as stats
use Rattle.vx_aggregate.specs.Stats.{stat_number}
use Rattle.vx_metadata.specs.declared.dict.DictLayoutMetadata.{DictLayoutMetadata}
use Rattle.vx_metadata.specs.declared.list.ListLayoutMetadata.{ListLayoutMetadata}
use Rattle.vx_metadata.specs.Values.{Zoned}

-- the array tree behind a 1, where it is kept
abbrev pub flat_bytes : Option (List ℕ) → List ℕ
flat_bytes None = []
flat_bytes (Some tree) = 1 ∷ tree

-- the type of the codes, whether they are nullable, whether all values are referenced
abbrev pub dict_bytes : DictLayoutMetadata → List ℕ
dict_bytes m = ptype_number m.codes_ptype ∷ bit m.is_nullable_codes ∷ bit m.all_values_referenced ∷ []

-- the type of the offsets
abbrev pub list_bytes : ListLayoutMetadata → List ℕ
list_bytes m = ptype_number m.offsets_ptype ∷ []

-- bytes behind their number
abbrev pub counted : List ℕ → List ℕ
counted s = to_le_bytes w32 (length s) ++ s

abbrev pub spec_bytes : Spec → List ℕ
spec_bytes s = counted s.id ++ counted s.options

-- the version, which is 1, the zone length, and the specs behind their number
abbrev pub zoned_bytes : Zoned → List ℕ
zoned_bytes z = 1 ∷ (to_le_bytes w32 z.zone_len ++ (to_le_bytes w32 (length z.specs) ++ joined_by spec_bytes z.specs))

abbrev pub stat_bit : Stat → ℕ
stat_bit s = 2 ^ stat_number s

abbrev pub all_stats : List Stat
all_stats = stats.Max ∷ stats.Min ∷ stats.Sum ∷ stats.NullCount ∷ stats.UncompressedSizeInBytes ∷ []

-- the zone length, and a byte with a bit for each statistic
abbrev pub legacy_bytes : ℕ × List Stat → List ℕ
legacy_bytes m = to_le_bytes w32 m.0 ++ (total_by stat_bit m.1 ∷ [])
