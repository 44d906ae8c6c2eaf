-- Reading metadata: the value that the bytes are, or nothing.
use Rattle.std.specs.Prelude.{ℕ, zero, suc, ◌/◌, ◌%◌, Bool, true, false, if◌then◌else◌, List, [], ◌∷◌, length, Option, Some, None, nat_lt, ◌==◌}
use Rattle.std.specs.Int.{w32, from_le_bytes}
use Rattle.std.specs.Str.{is_utf8}
use Rattle.vx_model.specs.declared.ptype.PType.{PType}
use Rattle.vx_model.specs.declared.ptype.PType.TheVariants.{U8, U16, U32, U64, I8, I16, I32, I64}
use Rattle.vx_model.specs.Words.{joined_by}
use Rattle.vx_layout_spec.specs.LayoutTree.{Spec}
use Rattle.vx_byte_reader.specs.Fields.{◌>>=◌, front_at, number_at, many_at}
use Rattle.vx_aggregate.specs.declared.stat.Stat.{Stat}
use Rattle.vx_metadata.specs.declared.dict.DictLayoutMetadata.{DictLayoutMetadata}
use Rattle.vx_metadata.specs.declared.list.ListLayoutMetadata.{ListLayoutMetadata}
use Rattle.vx_metadata.specs.Values.{Zoned}
use Rattle.vx_metadata.specs.Spelled.{stat_bit, all_stats}

abbrev pub flat_in : List ℕ → Option (Option (List ℕ))
flat_in [] = Some None
flat_in (zero ∷ rest) = None
flat_in (suc zero ∷ tree) = Some (Some tree)
flat_in (suc (suc b) ∷ rest) = None

-- the integer type of the number
abbrev pub ptype_in : ℕ → Option PType
ptype_in n =
    if n == 0 then Some U8 else if n == 1 then Some U16 else if n == 2 then Some U32 else if n == 3 then Some U64
    else if n == 4 then Some I8 else if n == 5 then Some I16 else if n == 6 then Some I32 else if n == 7 then Some I64 else None

abbrev pub flag_in : ℕ → Option Bool
flag_in zero = Some false
flag_in (suc zero) = Some true
flag_in (suc (suc b)) = None

abbrev pub dict_in : List ℕ → Option DictLayoutMetadata
dict_in (p ∷ n ∷ a ∷ []) = do
  ptype ← ptype_in p
  nullable ← flag_in n
  all ← flag_in a
  Some (record { codes_ptype = ptype; is_nullable_codes = nullable; all_values_referenced = all })
dict_in bytes = None

abbrev pub list_in : List ℕ → Option ListLayoutMetadata
list_in (p ∷ []) = do
  ptype ← ptype_in p
  Some (record { offsets_ptype = ptype })
list_in bytes = None

-- ---- zoned

-- a length or a count
abbrev pub count_at : List ℕ → Option (ℕ × List ℕ)
count_at = number_at w32

-- a length, and that many bytes
unfoldable pub string_at : List ℕ → Option (List ℕ × List ℕ)
string_at bytes = do
  n ← count_at bytes
  front_at n.0 n.1

-- the same of UTF-8
unfoldable pub name_at : List ℕ → Option (List ℕ × List ℕ)
name_at bytes = do
  s ← string_at bytes
  if is_utf8 s.0 then Some s else None

unfoldable pub spec_at : List ℕ → Option (Spec × List ℕ)
spec_at bytes = do
  id ← name_at bytes
  options ← string_at id.1
  Some (record { id = id.0; options = options.0 }, options.1)

unfoldable pub zoned_body : List ℕ → Option Zoned
zoned_body bytes = do
  zone_len ← count_at bytes
  count ← count_at zone_len.1
  specs ← many_at spec_at count.0 count.1
  if length specs.1 == 0 then Some (record { zone_len = zone_len.0; specs = specs.0 }) else None

-- the version is 1
abbrev pub zoned_in : List ℕ → Option Zoned
zoned_in [] = None
zoned_in (zero ∷ rest) = None
zoned_in (suc zero ∷ rest) = zoned_body rest
zoned_in (suc (suc b) ∷ rest) = None

-- ---- legacy statistics

-- the statistic, where its bit is set
abbrev pub held : ℕ → Stat → List Stat
held bits s = if bits / stat_bit s % 2 == 1 then s ∷ [] else []

abbrev pub stats_in : ℕ → List Stat
stats_in bits = joined_by (held bits) all_stats

-- bits that stand for no statistic are 0
abbrev pub legacy_in : List ℕ → Option (ℕ × List Stat)
legacy_in (a ∷ b ∷ c ∷ d ∷ bits ∷ []) = if nat_lt bits 32 then Some (from_le_bytes w32 (a ∷ b ∷ c ∷ d ∷ []), stats_in bits) else None
legacy_in bytes = None
