-- Aggregates of zones: names, options and the type of their values.
use Rattle.std.specs.Prelude.{ℕ, ◌^◌, ◌&&◌, ◌==◌, nat_lt, bytes_eq, Bool, true, if◌then◌else◌, List, [], ◌∷◌, ◌++◌, length, take, drop, codes, Option, Some, None}
use Rattle.std.specs.Int.{w32, to_le_bytes, from_le_bytes}
use Rattle.std.specs.Fmt.{decimal}
use Rattle.vx_model.specs.declared.ptype.PType.{PType}
use Rattle.vx_model.specs.declared.ptype.PType.TheVariants.{U8, U16, U32, U64, I64}
use Rattle.vx_model.specs.Ty.{Ty, boolean, primitive, utf8, binary, extension}
use Rattle.vx_layout_spec.specs.LayoutTree.{Spec}

pub data Aggregate : Type 0 where
  maximum : Aggregate
  minimum : Aggregate
  -- of at most so many bytes
  bounded_maximum : ℕ → Aggregate
  bounded_minimum : ℕ → Aggregate
  null_count : Aggregate
  sum : Aggregate
  -- of so many blocks
  bloom : ℕ → Aggregate

abbrev pub aggregate_id : Aggregate → List ℕ
aggregate_id maximum = codes "vortex.max"
aggregate_id minimum = codes "vortex.min"
aggregate_id (bounded_maximum n) = codes "vortex.bounded_max"
aggregate_id (bounded_minimum n) = codes "vortex.bounded_min"
aggregate_id null_count = codes "vortex.null_count"
aggregate_id sum = codes "vortex.sum"
aggregate_id (bloom n) = codes "vortex.bloom_filter.sbbf"

-- the name of its column
abbrev pub display : Aggregate → List ℕ
display maximum = codes "max"
display minimum = codes "min"
display (bounded_maximum n) = codes "bounded_max(" ++ (decimal n ++ codes ")")
display (bounded_minimum n) = codes "bounded_min(" ++ (decimal n ++ codes ")")
display null_count = codes "null_count"
display sum = codes "sum"
display (bloom n) = codes "bloom_filter(blocks=" ++ (decimal n ++ codes ", hash_fn=xxhash3_64)")

abbrev pub option_bytes : Aggregate → List ℕ
option_bytes (bounded_maximum n) = to_le_bytes w32 n
option_bytes (bounded_minimum n) = to_le_bytes w32 n
option_bytes (bloom n) = to_le_bytes w32 n ++ to_le_bytes w32 0
option_bytes a = []

abbrev pub spec : Aggregate → Spec
spec a = record { id = aggregate_id a; options = option_bytes a }

-- a bound and a number of blocks from 1 to 2^32 - 1
abbrev pub has_options : Aggregate → Bool
has_options (bounded_maximum n) = nat_lt 0 n && nat_lt n (2 ^ 32)
has_options (bounded_minimum n) = nat_lt 0 n && nat_lt n (2 ^ 32)
has_options (bloom n) = nat_lt 0 n && nat_lt n (2 ^ 32)
has_options a = true

-- ---- the aggregate that a spec names, if there is one

abbrev pub without_options : Aggregate → List ℕ → Option Aggregate
without_options a [] = Some a
without_options a (b ∷ bytes) = None

-- a number of four bytes that isn't 0, and the given bytes behind it
abbrev pub with_number : (ℕ → Aggregate) → List ℕ → List ℕ → Option Aggregate
with_number f rest bytes =
    if (length bytes == length (0 ∷ 0 ∷ 0 ∷ 0 ∷ rest)) && (bytes_eq (drop 4 bytes) rest && nat_lt 0 (from_le_bytes w32 (take 4 bytes)))
    then Some (f (from_le_bytes w32 (take 4 bytes)))
    else None

abbrev pub aggregate_of : Spec → Option Aggregate
aggregate_of s =
    if bytes_eq s.id (codes "vortex.max") then without_options maximum s.options
    else if bytes_eq s.id (codes "vortex.min") then without_options minimum s.options
    else if bytes_eq s.id (codes "vortex.bounded_max") then with_number bounded_maximum [] s.options
    else if bytes_eq s.id (codes "vortex.bounded_min") then with_number bounded_minimum [] s.options
    else if bytes_eq s.id (codes "vortex.null_count") then without_options null_count s.options
    else if bytes_eq s.id (codes "vortex.sum") then without_options sum s.options
    else if bytes_eq s.id (codes "vortex.bloom_filter.sbbf") then with_number bloom (0 ∷ 0 ∷ 0 ∷ 0 ∷ []) s.options
    else None

-- of each spec, where all are known
abbrev pub one_more : Option Aggregate → Option (List Aggregate) → Option (List Aggregate)
one_more (Some a) (Some aggregates) = Some (a ∷ aggregates)
one_more a aggregates = None

abbrev pub aggregates_of : List Spec → Option (List Aggregate)
aggregates_of [] = Some []
aggregates_of (s ∷ specs) = one_more (aggregate_of s) (aggregates_of specs)

-- ---- the type of the values, always nullable; none where the column's type has none; an extension has its storage's

abbrev pub bound_state : Ty → Option Ty
bound_state (boolean n) = Some (boolean true)
bound_state (primitive p n) = Some (primitive p true)
bound_state (utf8 n) = Some (utf8 true)
bound_state (binary n) = Some (binary true)
bound_state (extension tag t) = bound_state t
bound_state t = None

abbrev pub byte_bound_state : Ty → Option Ty
byte_bound_state (utf8 n) = Some (utf8 true)
byte_bound_state (binary n) = Some (binary true)
byte_bound_state (extension tag t) = byte_bound_state t
byte_bound_state t = None

-- the type of sums
abbrev pub sum_type : PType → PType
sum_type U8 = U64
sum_type U16 = U64
sum_type U32 = U64
sum_type U64 = U64
sum_type p = I64

abbrev pub sum_of_type : Ty → Option PType
sum_of_type (boolean n) = Some U64
sum_of_type (primitive p n) = Some (sum_type p)
sum_of_type (extension tag t) = sum_of_type t
sum_of_type t = None

abbrev pub sum_state : Option PType → Option Ty
sum_state None = None
sum_state (Some p) = Some (primitive p true)

abbrev pub filter_state : Ty → Option Ty
filter_state (boolean n) = Some (binary true)
filter_state (primitive p n) = Some (binary true)
filter_state (utf8 n) = Some (binary true)
filter_state (binary n) = Some (binary true)
filter_state (extension tag t) = filter_state t
filter_state t = None

abbrev pub state_type : Aggregate → Ty → Option Ty
state_type maximum t = bound_state t
state_type minimum t = bound_state t
state_type (bounded_maximum n) t = byte_bound_state t
state_type (bounded_minimum n) t = byte_bound_state t
state_type null_count t = Some (primitive U64 true)
state_type sum t = sum_state (sum_of_type t)
state_type (bloom n) t = filter_state t

-- the aggregates that the type can hold, with the types of their values
abbrev pub Column : Type 0
Column = Aggregate × Ty

abbrev pub with_state : Aggregate → Option Ty → List Column
with_state a None = []
with_state a (Some t) = (a, t) ∷ []

abbrev pub held_aggregates : List Aggregate → Ty → List Column
held_aggregates [] t = []
held_aggregates (a ∷ aggregates) t = with_state a (state_type a t) ++ held_aggregates aggregates t

-- what is recorded where nothing else is asked for: the type itself is looked at
abbrev pub default_aggregates : Ty → List Aggregate
default_aggregates (utf8 n) = bounded_maximum 64 ∷ bounded_minimum 64 ∷ null_count ∷ []
default_aggregates (binary n) = bounded_maximum 64 ∷ bounded_minimum 64 ∷ null_count ∷ []
default_aggregates t = maximum ∷ minimum ∷ null_count ∷ []
