-- What one entry of a record tells.
use Rattle.std.proofs.Common.{◌≡◌, ℕ, ◌/◌, ◌%◌, ◌^◌, ◌<◌, ◌&&◌, Bool, true, false, not, List, length, refl, sym, ap, ap₂, ◌∙◌, arith}
use Rattle.std.specs.Prelude.{◌==◌, pos, negsuc}
use Rattle.std.proofs.lemmas.Bool.Decides.{nat_tests}
use Rattle.vx_hash.specs.XxHash3.{xxhash3_64}
use Rattle.vx_model.specs.Ty.{Ty}
use Rattle.vx_model.specs.ValueData.{ValueData, null_value, bool_value, int_value, text_value, bytes_value, list_value, struct_value}
use Rattle.vx_bloom_spec.specs.Bytes.{filter_at, IsFilterLength}
use Rattle.vx_bloom_spec.specs.Values.{value_hash, may_contain_hash}
use Rattle.vx_aggregate_spec.specs.Aggregate.{Aggregate, maximum, minimum, bounded_maximum, bounded_minimum, null_count, sum, bloom}
use Rattle.vx_zone_spec.specs.ValueOrder.{value_le, value_lt}
use Rattle.vx_zone_spec.specs.Pruning.{upper_passes, lower_passes, counts, is_filter_length, bytes_lack, lacks}
use Rattle.vx_zone_record.specs.Scalars.{shallow}
use Rattle.vx_zone_map.specs.declared.comparison.Relation.{Relation}
use Rattle.vx_zone_map.specs.declared.comparison.Relation.TheVariants.{Below, AtMost, Same, AtLeast, Above}
use Rattle.vx_zone_map.specs.Tests.{stands, bounds_above, bounds_below, is_null_count, is_filter, value_counts, value_lacks}
use Rattle.vx_zone_map.proofs.OrderSteps.{below_is}

-- ---- values of which nothing inside is known

le_left : (v w : ValueData) → value_le (shallow v) w ≡ value_le v w
le_left null_value w = refl
le_left (bool_value b) w = refl
le_left (int_value n) w = refl
le_left (text_value s) w = refl
le_left (bytes_value s) w = refl
le_left (list_value vs) w = refl
le_left (struct_value vs) w = refl

le_right : (v w : ValueData) → value_le v (shallow w) ≡ value_le v w
le_right (bool_value a) (list_value ws) = refl
le_right (bool_value a) (struct_value ws) = refl
le_right (bool_value a) w = refl
le_right (int_value a) (list_value ws) = refl
le_right (int_value a) (struct_value ws) = refl
le_right (int_value a) w = refl
le_right (text_value a) (list_value ws) = refl
le_right (text_value a) (struct_value ws) = refl
le_right (text_value a) w = refl
le_right (bytes_value a) (list_value ws) = refl
le_right (bytes_value a) (struct_value ws) = refl
le_right (bytes_value a) w = refl
le_right v w = refl

le_shallow : (v w : ValueData) → value_le (shallow v) (shallow w) ≡ value_le v w
le_shallow v w = le_left v (shallow w) ∙ le_right v w

lt_shallow : (v w : ValueData) → value_lt (shallow v) (shallow w) ≡ value_lt v w
lt_shallow v w = below_is (shallow v) (shallow w) ∙ ap₂ (λ (a b : Bool). a && not b) (le_shallow v w) (le_shallow w v) ∙ sym (below_is v w)

stands_shallow : (r : Relation) (v u : ValueData) → stands r (shallow v) (shallow u) ≡ stands r v u
stands_shallow Below v u = lt_shallow u v
stands_shallow AtMost v u = le_shallow u v
stands_shallow Same v u = ap₂ (λ (a b : Bool). a && b) (le_shallow u v) (le_shallow v u)
stands_shallow AtLeast v u = le_shallow v u
stands_shallow Above v u = lt_shallow v u

-- ---- bounds: null stands in no relation

le_null : (v : ValueData) → value_le v null_value ≡ false
le_null null_value = refl
le_null (bool_value b) = refl
le_null (int_value n) = refl
le_null (text_value s) = refl
le_null (bytes_value s) = refl
le_null (list_value vs) = refl
le_null (struct_value vs) = refl

lt_null : (v : ValueData) → value_lt v null_value ≡ false
lt_null null_value = refl
lt_null (bool_value b) = refl
lt_null (int_value n) = refl
lt_null (text_value s) = refl
lt_null (bytes_value s) = refl
lt_null (list_value vs) = refl
lt_null (struct_value vs) = refl

null_stands : (r : Relation) (v : ValueData) → stands r v null_value ≡ false
null_stands Below v = refl
null_stands AtMost v = refl
null_stands Same v = refl
null_stands AtLeast v = le_null v
null_stands Above v = lt_null v

some_stands : (r : Relation) (v u : ValueData) → (not (Rattle.vx_model.specs.ValueData.is_null_value u) && stands r v u) ≡ stands r v u
some_stands r v null_value = sym (null_stands r v)
some_stands r v (bool_value b) = refl
some_stands r v (int_value n) = refl
some_stands r v (text_value s) = refl
some_stands r v (bytes_value s) = refl
some_stands r v (list_value vs) = refl
some_stands r v (struct_value vs) = refl

upper_is : (r : Relation) (v u : ValueData) (a : Aggregate) → upper_passes (stands r v) a u ≡ (bounds_above a && stands r v u)
upper_is r v u maximum = some_stands r v u
upper_is r v u (bounded_maximum n) = some_stands r v u
upper_is r v u minimum = refl
upper_is r v u (bounded_minimum n) = refl
upper_is r v u null_count = refl
upper_is r v u sum = refl
upper_is r v u (bloom n) = refl

lower_is : (r : Relation) (v u : ValueData) (a : Aggregate) → lower_passes (stands r v) a u ≡ (bounds_below a && stands r v u)
lower_is r v u minimum = some_stands r v u
lower_is r v u (bounded_minimum n) = some_stands r v u
lower_is r v u maximum = refl
lower_is r v u (bounded_maximum n) = refl
lower_is r v u null_count = refl
lower_is r v u sum = refl
lower_is r v u (bloom n) = refl

pub upper_told : (r : Relation) (v u : ValueData) (a : Aggregate) → upper_passes (stands r v) a u ≡ (bounds_above a && stands r (shallow v) (shallow u))
upper_told r v u a = upper_is r v u a ∙ ap (λ (b : Bool). bounds_above a && b) (sym (stands_shallow r v u))

pub lower_told : (r : Relation) (v u : ValueData) (a : Aggregate) → lower_passes (stands r v) a u ≡ (bounds_below a && stands r (shallow v) (shallow u))
lower_told r v u a = lower_is r v u a ∙ ap (λ (b : Bool). bounds_below a && b) (sym (stands_shallow r v u))

-- ---- null counts and filters

pub count_told : (n : ℕ) (u : ValueData) (a : Aggregate) → counts n a u ≡ (is_null_count a && value_counts n (shallow u))
count_told n (int_value (pos k)) null_count = refl
count_told n (int_value (negsuc k)) null_count = refl
count_told n (list_value vs) null_count = refl
count_told n (struct_value vs) null_count = refl
count_told n u null_count = refl
count_told n u maximum = refl
count_told n u minimum = refl
count_told n u (bounded_maximum k) = refl
count_told n u (bounded_minimum k) = refl
count_told n u sum = refl
count_told n u (bloom k) = refl

pub filter_told : (t : Ty) (v u : ValueData) (a : Aggregate) → lacks xxhash3_64 t v a u ≡ (is_filter a && value_lacks t v (shallow u))
filter_told t v (list_value vs) (bloom k) = refl
filter_told t v (struct_value vs) (bloom k) = refl
filter_told t v u (bloom k) = refl
filter_told t v u maximum = refl
filter_told t v u minimum = refl
filter_told t v u (bounded_maximum k) = refl
filter_told t v u (bounded_minimum k) = refl
filter_told t v u sum = refl
filter_told t v u null_count = refl

pub ruleset test_rules = (upper_told, lower_told, count_told, filter_told)

-- ---- a number

pub count_same : (n k : ℕ) → value_counts n (int_value (pos k)) ≡ (k == n)
count_same n k = refl

pub ruleset count_rules = (count_same, nat_tests)

-- ---- bytes

pub lengths_true : (n : ℕ) → IsFilterLength n → is_filter_length n ≡ true
lengths_true n h = go n h.whole h.some h.few
  where
    go : (n : ℕ) → n % 32 ≡ 0 → 0 < n → n / 32 < 2 ^ 32 → is_filter_length n ≡ true
    go n a b c = grind (arith, nat_tests)

pub lengths_false : (n : ℕ) → (IsFilterLength n → ⊥) → is_filter_length n ≡ false
lengths_false n h = go (is_filter_length n) refl
  where
    whole : (n : ℕ) → is_filter_length n ≡ true → n % 32 ≡ 0
    whole n h = grind (arith, nat_tests)

    some : (n : ℕ) → is_filter_length n ≡ true → 0 < n
    some n h = grind (arith, nat_tests)

    few : (n : ℕ) → is_filter_length n ≡ true → n / 32 < 2 ^ 32
    few n h = grind (arith, nat_tests)

    go : (b : Bool) → is_filter_length n ≡ b → b ≡ false
    go true e = absurd (h (record { whole = whole n e; some = some n e; few = few n e }))
    go false e = refl

pub lack_some : (t : Ty) (v : ValueData) (bytes : List ℕ) → IsFilterLength (length bytes) → bytes_lack xxhash3_64 t v bytes ≡ not (may_contain_hash (filter_at bytes) (value_hash xxhash3_64 t v))
lack_some t v bytes h = ap (λ (b : Bool). b && not (may_contain_hash (filter_at bytes) (value_hash xxhash3_64 t v))) (lengths_true (length bytes) h)

pub lack_none : (t : Ty) (v : ValueData) (bytes : List ℕ) → (IsFilterLength (length bytes) → ⊥) → bytes_lack xxhash3_64 t v bytes ≡ false
lack_none t v bytes h = ap (λ (b : Bool). b && not (may_contain_hash (filter_at bytes) (value_hash xxhash3_64 t v))) (lengths_false (length bytes) h)

pub ruleset filter_rules = (lack_some, lack_none)
