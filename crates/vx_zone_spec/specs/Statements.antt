-- The laws of records, bounds, filters and pruning.
use Rattle.std.specs.Prelude.{◌≡◌, ◌≢◌, ◌⊎◌, ℕ, ◌^◌, ◌<◌, ◌&&◌, Bool, true, false, List, [], ◌∷◌, length, Some, pos}
use Rattle.std.specs.Str.{is_utf8}
use Rattle.vx_model.specs.Ty.{Ty, has_order}
use Rattle.vx_model.specs.ValueData.{ValueData, null_value, int_value, text_value, bytes_value, is_row_value}
use Rattle.vx_path.specs.Lists.{In}
use Rattle.vx_hash.specs.XxHash3.{xxhash3_64}
use Rattle.vx_bloom_spec.specs.Bytes.{filter_at, IsFilterLength}
use Rattle.vx_bloom_spec.specs.Values.{value_hash, value_hashes, may_contain_hash}
use Rattle.vx_bloom_spec.specs.Filter.{filter_of}
use Rattle.vx_aggregate_spec.specs.Aggregate.{Aggregate, maximum, minimum, bounded_maximum, bounded_minimum, null_count, bloom, has_options, aggregate_of, spec}
use Rattle.vx_zone_spec.specs.ValueOrder.{value_le, value_lt, value_same, greatest, least}
use Rattle.vx_zone_spec.specs.Bounds.{upper_bound, lower_bound}
use Rattle.vx_zone_spec.specs.Record.{aggregate_value}
use Rattle.vx_zone_spec.specs.Pruning.{Predicate, ZoneRecord, eq, not_eq, lt, lt_eq, gt, gt_eq, is_null, is_not_null, both, either, negated, says, predicate_fits, pushed, falsified}

-- ---- the row values of a column

-- a text is UTF-8
abbrev pub is_text : ValueData → Bool
is_text (text_value s) = is_utf8 s
is_text v = true

-- null, or a value of the type
abbrev pub is_value_of : Ty → ValueData → Bool
is_value_of t v = is_row_value t v && is_text v

abbrev pub AllValues : Ty → List ValueData → Type 0
AllValues t [] = Unit {0}
AllValues t (v ∷ vs) = (is_value_of t v ≡ true) × AllValues t vs

-- each hash has 64 bits
abbrev pub SmallHash : (List ℕ → ℕ) → Type 0
SmallHash hash = (bytes : List ℕ) → hash bytes < 2 ^ 64

-- the values of a zone's aggregates
abbrev pub IsRecord : (List ℕ → ℕ) → Ty → List ValueData → ZoneRecord → Type 0
IsRecord hash t vs [] = Unit {0}
IsRecord hash t vs (a ∷ r) = (a.1 ≡ aggregate_value hash t vs a.0) × IsRecord hash t vs r

-- ---- pruning

-- Where a zone's record rules a predicate out, no row of the zone matches it.
abbrev pub PruningIsSound : Type 0
PruningIsSound = (hash : List ℕ → ℕ) (t : Ty) (p : Predicate) (vs : List ValueData) (r : ZoneRecord) → SmallHash hash → AllValues t vs → predicate_fits t p ≡ true
    → IsRecord hash t vs r → falsified hash t p r (length vs) ≡ true → (w : ValueData) → In w vs → says p w ≢ Some true

-- no Not
abbrev pub is_pushed : Predicate → Bool
is_pushed (both p q) = is_pushed p && is_pushed q
is_pushed (either p q) = is_pushed p && is_pushed q
is_pushed (negated p) = false
is_pushed p = true

-- Pushing Not to the leaves leaves no Not, and changes nothing that a predicate says of a column's values.
pub record Pushed (t : Ty) (p : Predicate) : Type 0 where
  pub leaves : is_pushed (pushed p) ≡ true
  pub fits : predicate_fits t p ≡ true → predicate_fits t (pushed p) ≡ true
  pub same : predicate_fits t p ≡ true → (w : ValueData) → is_value_of t w ≡ true → says (pushed p) w ≡ says p w

abbrev pub NotIsPushed : Type 0
NotIsPushed = (t : Ty) (p : Predicate) → Pushed t p

-- ---- the table, in words

abbrev pub IsUpper : Aggregate → Type 0
IsUpper maximum = Unit {0}
IsUpper (bounded_maximum n) = Unit {0}
IsUpper a = ⊥

abbrev pub IsLower : Aggregate → Type 0
IsLower minimum = Unit {0}
IsLower (bounded_minimum n) = Unit {0}
IsLower a = ⊥

-- an upper bound that isn't null and passes the test
pub record Upper (f : ValueData → Bool) (r : ZoneRecord) : Type 0 where
  pub aggregate : Aggregate
  pub bound : ValueData
  pub listed : In (aggregate, bound) r
  pub is_upper : IsUpper aggregate
  pub some : bound ≢ null_value
  pub passes : f bound ≡ true

pub record Lower (f : ValueData → Bool) (r : ZoneRecord) : Type 0 where
  pub aggregate : Aggregate
  pub bound : ValueData
  pub listed : In (aggregate, bound) r
  pub is_lower : IsLower aggregate
  pub some : bound ≢ null_value
  pub passes : f bound ≡ true

-- a filter that is stored whole and doesn't contain the value
pub record Lacking (hash : List ℕ → ℕ) (t : Ty) (v : ValueData) (r : ZoneRecord) : Type 0 where
  pub blocks : ℕ
  pub stored : List ℕ
  pub listed : In (bloom blocks, bytes_value stored) r
  pub whole : IsFilterLength (length stored)
  pub lacks : may_contain_hash (filter_at stored) (value_hash hash t v) ≡ false

-- so many rows are null
abbrev pub Nulls : ℕ → ZoneRecord → Type 0
Nulls n r = In (null_count, int_value (pos n)) r

-- by which of its entries the record of a zone of n rows rules out a predicate without Not
abbrev pub RulesOut : (List ℕ → ℕ) → Ty → ZoneRecord → ℕ → Predicate → Type 0
RulesOut hash t r n (eq v) = Upper (λ u. value_lt u v) r ⊎ (Lower (λ l. value_lt v l) r ⊎ (Lacking hash t v r ⊎ Nulls n r))
RulesOut hash t r n (not_eq v) = (Upper (λ u. value_same u v) r × Lower (λ l. value_same l v) r) ⊎ Nulls n r
RulesOut hash t r n (lt v) = Lower (λ l. value_le v l) r ⊎ Nulls n r
RulesOut hash t r n (lt_eq v) = Lower (λ l. value_lt v l) r ⊎ Nulls n r
RulesOut hash t r n (gt v) = Upper (λ u. value_le u v) r ⊎ Nulls n r
RulesOut hash t r n (gt_eq v) = Upper (λ u. value_lt u v) r ⊎ Nulls n r
RulesOut hash t r n is_null = Nulls 0 r
RulesOut hash t r n is_not_null = Nulls n r
RulesOut hash t r n (both p q) = RulesOut hash t r n p ⊎ RulesOut hash t r n q
RulesOut hash t r n (either p q) = RulesOut hash t r n p × RulesOut hash t r n q
RulesOut hash t r n (negated p) = ⊥

-- A record rules a predicate out exactly where the table says so, Not being pushed to the leaves.
pub record Exact (hash : List ℕ → ℕ) (t : Ty) (p : Predicate) (r : ZoneRecord) (n : ℕ) : Type 0 where
  pub only : falsified hash t p r n ≡ true → RulesOut hash t r n (pushed p)
  pub whenever : RulesOut hash t r n (pushed p) → falsified hash t p r n ≡ true

abbrev pub TableIsExact : Type 0
TableIsExact = (hash : List ℕ → ℕ) (t : Ty) (p : Predicate) (r : ZoneRecord) (n : ℕ) → Exact hash t p r n

-- ---- filters and bounds

-- A filter contains each value of its zone that has a hash.
abbrev pub FilterContains : Type 0
FilterContains = (hash : List ℕ → ℕ) (t : Ty) (blocks : ℕ) (vs : List ValueData) (v : ValueData) (h : ℕ) → In v vs → value_hash hash t v ≡ Some h → h < 2 ^ 64 → 0 < blocks
    → may_contain_hash (filter_of blocks (value_hashes hash t vs)) (value_hash hash t v) ≡ true

-- The bytes that a record stores are a filter's, which contains each value of the zone that isn't null.
pub record StoresFilter (hash : List ℕ → ℕ) (t : Ty) (blocks : ℕ) (vs : List ValueData) (stored : List ℕ) : Type 0 where
  pub whole : IsFilterLength (length stored)
  pub read : filter_at stored ≡ filter_of blocks (value_hashes hash t vs)
  pub contains : (v : ValueData) → In v vs → v ≢ null_value → may_contain_hash (filter_at stored) (value_hash hash t v) ≡ true

abbrev pub StoredFilterContains : Type 0
StoredFilterContains = (hash : List ℕ → ℕ) (t : Ty) (blocks : ℕ) (vs : List ValueData) (stored : List ℕ) → SmallHash hash → has_order t ≡ true → AllValues t vs
    → 0 < blocks → blocks < 2 ^ 32 → bytes_value stored ≡ aggregate_value hash t vs (bloom blocks) → StoresFilter hash t blocks vs stored

-- A bounded maximum that isn't null is at least every value that isn't null, a bounded minimum at most.
abbrev pub BoundsHold : Type 0
BoundsHold = (t : Ty) (n : ℕ) (vs : List ValueData) (v : ValueData) → has_order t ≡ true → AllValues t vs → In v vs → v ≢ null_value
    → (upper_bound n (greatest vs) ≢ null_value → value_le v (upper_bound n (greatest vs)) ≡ true) × (value_le (lower_bound n (least vs)) v ≡ true)

-- The hash of filters has 64 bits.
abbrev pub HashIsSmall : Type 0
HashIsSmall = SmallHash xxhash3_64

-- ---- specs
