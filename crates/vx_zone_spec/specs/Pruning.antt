-- Predicates over a column, and which zones a record rules out.
use Rattle.std.specs.Prelude.{ℕ, ◌&&◌, ◌||◌, ◌==◌, ◌%◌, ◌/◌, ◌^◌, nat_lt, Bool, true, false, not, List, [], ◌∷◌, length, Option, Some, None, pos}
use Rattle.vx_model.specs.Ty.{Ty, list, struct, extension, has_order}
use Rattle.vx_model.specs.ValueData.{ValueData, null_value, int_value, bytes_value, value_fits, is_null_value}
use Rattle.vx_bloom_spec.specs.Bytes.{filter_at}
use Rattle.vx_bloom_spec.specs.Values.{value_hash, may_contain_hash}
use Rattle.vx_aggregate_spec.specs.Aggregate.{Aggregate, maximum, minimum, bounded_maximum, bounded_minimum, null_count, bloom}
use Rattle.vx_zone_spec.specs.ValueOrder.{value_le, value_lt, value_same}

pub data Predicate : Type 0 where
  eq : ValueData → Predicate
  not_eq : ValueData → Predicate
  lt : ValueData → Predicate
  lt_eq : ValueData → Predicate
  gt : ValueData → Predicate
  gt_eq : ValueData → Predicate
  is_null : Predicate
  is_not_null : Predicate
  both : Predicate → Predicate → Predicate
  either : Predicate → Predicate → Predicate
  negated : Predicate → Predicate

-- ---- what a predicate says of a value: true, false or unknown

abbrev pub both_of : Option Bool → Option Bool → Option Bool
both_of (Some false) b = Some false
both_of a (Some false) = Some false
both_of (Some true) (Some true) = Some true
both_of a b = None

abbrev pub either_of : Option Bool → Option Bool → Option Bool
either_of (Some true) b = Some true
either_of a (Some true) = Some true
either_of (Some false) (Some false) = Some false
either_of a b = None

abbrev pub not_of : Option Bool → Option Bool
not_of None = None
not_of (Some b) = Some (not b)

-- a comparison with null is unknown
abbrev pub compared : ValueData → Bool → Option Bool
compared null_value b = None
compared v b = Some b

abbrev pub says : Predicate → ValueData → Option Bool
says (eq w) v = compared v (value_same v w)
says (not_eq w) v = compared v (not (value_same v w))
says (lt w) v = compared v (value_lt v w)
says (lt_eq w) v = compared v (value_le v w)
says (gt w) v = compared v (value_lt w v)
says (gt_eq w) v = compared v (value_le w v)
says is_null v = Some (is_null_value v)
says is_not_null v = Some (not (is_null_value v))
says (both p q) v = both_of (says p v) (says q v)
says (either p q) v = either_of (says p v) (says q v)
says (negated p) v = not_of (says p v)

-- ---- which predicates may be asked of a column

-- the values are compared, and this is one that isn't null
abbrev pub is_literal : Ty → ValueData → Bool
is_literal t v = has_order t && (not (is_null_value v) && value_fits t v)

-- each comparison is with a literal
abbrev pub predicate_fits : Ty → Predicate → Bool
predicate_fits t (eq v) = is_literal t v
predicate_fits t (not_eq v) = is_literal t v
predicate_fits t (lt v) = is_literal t v
predicate_fits t (lt_eq v) = is_literal t v
predicate_fits t (gt v) = is_literal t v
predicate_fits t (gt_eq v) = is_literal t v
predicate_fits t is_null = true
predicate_fits t is_not_null = true
predicate_fits t (both p q) = predicate_fits t p && predicate_fits t q
predicate_fits t (either p q) = predicate_fits t p && predicate_fits t q
predicate_fits t (negated p) = predicate_fits t p

-- ---- what a zone's record tells

-- a zone's record: its aggregates with their values
abbrev pub ZoneRecord : Type 0
ZoneRecord = List (Aggregate × ValueData)

-- whether some upper bound that isn't null passes the test
abbrev pub upper_passes : (ValueData → Bool) → Aggregate → ValueData → Bool
upper_passes f maximum u = not (is_null_value u) && f u
upper_passes f (bounded_maximum n) u = not (is_null_value u) && f u
upper_passes f a u = false

abbrev pub lower_passes : (ValueData → Bool) → Aggregate → ValueData → Bool
lower_passes f minimum l = not (is_null_value l) && f l
lower_passes f (bounded_minimum n) l = not (is_null_value l) && f l
lower_passes f a l = false

abbrev pub some_upper : (ValueData → Bool) → ZoneRecord → Bool
some_upper f [] = false
some_upper f (a ∷ r) = upper_passes f a.0 a.1 || some_upper f r

abbrev pub some_lower : (ValueData → Bool) → ZoneRecord → Bool
some_lower f [] = false
some_lower f (a ∷ r) = lower_passes f a.0 a.1 || some_lower f r

-- whether a null count is n; one that is null tells nothing
abbrev pub counts : ℕ → Aggregate → ValueData → Bool
counts n null_count (int_value (pos k)) = k == n
counts n a v = false

abbrev pub null_count_is : ℕ → ZoneRecord → Bool
null_count_is n [] = false
null_count_is n (a ∷ r) = counts n a.0 a.1 || null_count_is n r

-- so many bytes are those of a filter: of one block up to 2^32 - 1
abbrev pub is_filter_length : ℕ → Bool
is_filter_length n = (n % 32 == 0) && (nat_lt 0 n && nat_lt (n / 32) (2 ^ 32))

-- whether a stored filter, read with its own number of blocks, lacks the value; other bytes tell nothing
abbrev pub bytes_lack : (List ℕ → ℕ) → Ty → ValueData → List ℕ → Bool
bytes_lack hash t v bytes = is_filter_length (length bytes) && not (may_contain_hash (filter_at bytes) (value_hash hash t v))

-- nor does null
abbrev pub lacks : (List ℕ → ℕ) → Ty → ValueData → Aggregate → ValueData → Bool
lacks hash t v (bloom n) (bytes_value bytes) = bytes_lack hash t v bytes
lacks hash t v a u = false

abbrev pub some_filter_lacks : (List ℕ → ℕ) → Ty → ValueData → ZoneRecord → Bool
some_filter_lacks hash t v [] = false
some_filter_lacks hash t v (a ∷ r) = lacks hash t v a.0 a.1 || some_filter_lacks hash t v r

-- ---- which zones are ruled out

-- the table, for a predicate without Not: r is the record of a zone of n rows
abbrev pub ruled_out : (List ℕ → ℕ) → Ty → ZoneRecord → ℕ → Predicate → Bool
ruled_out hash t r n (eq v) = (some_upper (λ u. value_lt u v) r || some_lower (λ l. value_lt v l) r) || (some_filter_lacks hash t v r || null_count_is n r)
ruled_out hash t r n (not_eq v) = (some_upper (λ u. value_same u v) r && some_lower (λ l. value_same l v) r) || null_count_is n r
ruled_out hash t r n (lt v) = some_lower (λ l. value_le v l) r || null_count_is n r
ruled_out hash t r n (lt_eq v) = some_lower (λ l. value_lt v l) r || null_count_is n r
ruled_out hash t r n (gt v) = some_upper (λ u. value_le u v) r || null_count_is n r
ruled_out hash t r n (gt_eq v) = some_upper (λ u. value_lt u v) r || null_count_is n r
ruled_out hash t r n is_null = null_count_is 0 r
ruled_out hash t r n is_not_null = null_count_is n r
ruled_out hash t r n (both p q) = ruled_out hash t r n p || ruled_out hash t r n q
ruled_out hash t r n (either p q) = ruled_out hash t r n p && ruled_out hash t r n q
ruled_out hash t r n (negated p) = false

-- Not is pushed to the leaves
abbrev mutual
  pub pushed : Predicate → Predicate
  pushed (both p q) = both (pushed p) (pushed q)
  pushed (either p q) = either (pushed p) (pushed q)
  pushed (negated p) = opposite p
  pushed (eq v) = eq v
  pushed (not_eq v) = not_eq v
  pushed (lt v) = lt v
  pushed (lt_eq v) = lt_eq v
  pushed (gt v) = gt v
  pushed (gt_eq v) = gt_eq v
  pushed is_null = is_null
  pushed is_not_null = is_not_null

  pub opposite : Predicate → Predicate
  opposite (both p q) = either (opposite p) (opposite q)
  opposite (either p q) = both (opposite p) (opposite q)
  opposite (negated p) = pushed p
  opposite (eq v) = not_eq v
  opposite (not_eq v) = eq v
  opposite (lt v) = gt_eq v
  opposite (lt_eq v) = gt v
  opposite (gt v) = lt_eq v
  opposite (gt_eq v) = lt v
  opposite is_null = is_not_null
  opposite is_not_null = is_null

-- whether the record of a zone of n rows rules the predicate out, on a column of the type
abbrev pub falsified : (List ℕ → ℕ) → Ty → Predicate → ZoneRecord → ℕ → Bool
falsified hash t p r n = ruled_out hash t r n (pushed p)
