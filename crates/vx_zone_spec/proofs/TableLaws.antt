-- A record rules out exactly what the table says.
use Rattle.std.proofs.Common.{◌≡◌, ℕ, ◌/◌, ◌%◌, ◌<◌, ◌^◌, ◌⊎◌, ◌&&◌, ◌||◌, Bool, true, false, not, List, [], ◌∷◌, length, refl, sym, ap, subst, inl, inr, ⊎_elim, arith, eqb-true, eq-eqb}
use Rattle.std.specs.Prelude.{pos}
use Rattle.std.proofs.lemmas.Bool.{true≢false, or_cases, and_from, and_parts}
use Rattle.std.proofs.lemmas.Bool.Decides.{nat_tests}
use Rattle.vx_model.specs.Ty.{Ty}
use Rattle.vx_model.specs.ValueData.{ValueData, null_value, bool_value, int_value, text_value, bytes_value, list_value, struct_value, is_null_value}
use Rattle.vx_path.specs.Lists.{In}
use Rattle.vx_bloom_spec.specs.Bytes.{filter_at, IsFilterLength}
use Rattle.vx_bloom_spec.specs.Values.{value_hash, may_contain_hash}
use Rattle.vx_aggregate_spec.specs.Aggregate.{Aggregate, maximum, minimum, bounded_maximum, bounded_minimum, null_count, bloom}
use Rattle.vx_zone_spec.specs.ValueOrder.{value_le, value_lt, value_same}
use Rattle.vx_zone_spec.specs.Pruning.{Predicate, ZoneRecord, eq, not_eq, lt, lt_eq, gt, gt_eq, is_null, is_not_null, both, either, negated, upper_passes, lower_passes, some_upper, some_lower, counts, null_count_is, is_filter_length, bytes_lack, lacks, some_filter_lacks, ruled_out, pushed}
use Rattle.vx_zone_spec.specs.Statements.{IsUpper, IsLower, Upper, Lower, Lacking, Nulls, RulesOut, TableIsExact}

or_left : (a b : Bool) → a ≡ true → (a || b) ≡ true
or_left a b e = rw e refl

or_right : (a b : Bool) → b ≡ true → (a || b) ≡ true
or_right true b e = refl
or_right false b e = e

some_row : (v : ValueData) → not (is_null_value v) ≡ true → v ≡ null_value → ⊥
some_row v h e = true≢false (sym (subst (λ z. not (is_null_value z) ≡ true) e h))

row_some : (v : ValueData) → (v ≡ null_value → ⊥) → not (is_null_value v) ≡ true
row_some null_value n = absurd (n refl)
row_some (bool_value b) n = refl
row_some (int_value b) n = refl
row_some (text_value b) n = refl
row_some (bytes_value b) n = refl
row_some (list_value b) n = refl
row_some (struct_value b) n = refl

-- ---- upper bounds

module _ (f : ValueData → Bool) where
  upper_more : (x : Aggregate × ValueData) (r : ZoneRecord) → Upper f r → Upper f (x ∷ r)
  upper_more x r u = record { aggregate = u.aggregate; bound = u.bound; listed = inr u.listed; is_upper = u.is_upper; some = u.some; passes = u.passes }

  one_upper : (a : Aggregate) (u : ValueData) (r : ZoneRecord) → upper_passes f a u ≡ true → Upper f ((a, u) ∷ r)
  one_upper maximum u r h = record { aggregate = maximum; bound = u; listed = inl refl; is_upper = tt; some = some_row u (and_parts (not (is_null_value u)) (f u) h).0; passes = (and_parts (not (is_null_value u)) (f u) h).1 }
  one_upper (bounded_maximum n) u r h =
      record { aggregate = bounded_maximum n; bound = u; listed = inl refl; is_upper = tt; some = some_row u (and_parts (not (is_null_value u)) (f u) h).0; passes = (and_parts (not (is_null_value u)) (f u) h).1 }
  one_upper a u r h = absurd (true≢false (sym h))

  upper_of : (r : ZoneRecord) → some_upper f r ≡ true → Upper f r
  upper_of [] h = absurd (true≢false (sym h))
  upper_of (x ∷ r) h = ⊎_elim (λ e. one_upper x.0 x.1 r e) (λ e. upper_more x r (upper_of r e)) (or_cases (upper_passes f x.0 x.1) (some_upper f r) h)

  upper_here : (a : Aggregate) (u : ValueData) → IsUpper a → (u ≡ null_value → ⊥) → f u ≡ true → upper_passes f a u ≡ true
  upper_here maximum u i n p = and_from (not (is_null_value u)) (f u) (row_some u n) p
  upper_here (bounded_maximum k) u i n p = and_from (not (is_null_value u)) (f u) (row_some u n) p
  upper_here a u i n p = absurd i

  upper_in : (r : ZoneRecord) (a : Aggregate) (u : ValueData) → In (a, u) r → IsUpper a → (u ≡ null_value → ⊥) → f u ≡ true → some_upper f r ≡ true
  upper_in [] a u i k n p = absurd i
  upper_in (x ∷ r) a u i k n p = ⊎_elim
      (λ (e : (a, u) ≡ x). or_left (upper_passes f x.0 x.1) (some_upper f r) (subst (λ (z : Aggregate × ValueData). upper_passes f z.0 z.1 ≡ true) e (upper_here a u k n p)))
      (λ j. or_right (upper_passes f x.0 x.1) (some_upper f r) (upper_in r a u j k n p)) i

  lower_more : (x : Aggregate × ValueData) (r : ZoneRecord) → Lower f r → Lower f (x ∷ r)
  lower_more x r u = record { aggregate = u.aggregate; bound = u.bound; listed = inr u.listed; is_lower = u.is_lower; some = u.some; passes = u.passes }

  one_lower : (a : Aggregate) (u : ValueData) (r : ZoneRecord) → lower_passes f a u ≡ true → Lower f ((a, u) ∷ r)
  one_lower minimum u r h = record { aggregate = minimum; bound = u; listed = inl refl; is_lower = tt; some = some_row u (and_parts (not (is_null_value u)) (f u) h).0; passes = (and_parts (not (is_null_value u)) (f u) h).1 }
  one_lower (bounded_minimum n) u r h =
      record { aggregate = bounded_minimum n; bound = u; listed = inl refl; is_lower = tt; some = some_row u (and_parts (not (is_null_value u)) (f u) h).0; passes = (and_parts (not (is_null_value u)) (f u) h).1 }
  one_lower a u r h = absurd (true≢false (sym h))

  lower_of : (r : ZoneRecord) → some_lower f r ≡ true → Lower f r
  lower_of [] h = absurd (true≢false (sym h))
  lower_of (x ∷ r) h = ⊎_elim (λ e. one_lower x.0 x.1 r e) (λ e. lower_more x r (lower_of r e)) (or_cases (lower_passes f x.0 x.1) (some_lower f r) h)

  lower_here : (a : Aggregate) (u : ValueData) → IsLower a → (u ≡ null_value → ⊥) → f u ≡ true → lower_passes f a u ≡ true
  lower_here minimum u i n p = and_from (not (is_null_value u)) (f u) (row_some u n) p
  lower_here (bounded_minimum k) u i n p = and_from (not (is_null_value u)) (f u) (row_some u n) p
  lower_here a u i n p = absurd i

  lower_in : (r : ZoneRecord) (a : Aggregate) (u : ValueData) → In (a, u) r → IsLower a → (u ≡ null_value → ⊥) → f u ≡ true → some_lower f r ≡ true
  lower_in [] a u i k n p = absurd i
  lower_in (x ∷ r) a u i k n p = ⊎_elim
      (λ (e : (a, u) ≡ x). or_left (lower_passes f x.0 x.1) (some_lower f r) (subst (λ (z : Aggregate × ValueData). lower_passes f z.0 z.1 ≡ true) e (lower_here a u k n p)))
      (λ j. or_right (lower_passes f x.0 x.1) (some_lower f r) (lower_in r a u j k n p)) i

  from_upper : (r : ZoneRecord) → Upper f r → some_upper f r ≡ true
  from_upper r u = upper_in r u.aggregate u.bound u.listed u.is_upper u.some u.passes

  from_lower : (r : ZoneRecord) → Lower f r → some_lower f r ≡ true
  from_lower r u = lower_in r u.aggregate u.bound u.listed u.is_lower u.some u.passes

-- ---- null counts

one_count : (n : ℕ) (a : Aggregate) (v : ValueData) (r : ZoneRecord) → counts n a v ≡ true → Nulls n ((a, v) ∷ r)
one_count n null_count (int_value (pos k)) r h = inl (ap (λ (z : ℕ). (null_count, int_value (pos z))) (sym (eqb-true k n h)))
one_count n a v r h = absurd (true≢false (sym h))

nulls_of : (n : ℕ) (r : ZoneRecord) → null_count_is n r ≡ true → Nulls n r
nulls_of n [] h = absurd (true≢false (sym h))
nulls_of n (x ∷ r) h = ⊎_elim (λ e. one_count n x.0 x.1 r e) (λ e. inr (nulls_of n r e)) (or_cases (counts n x.0 x.1) (null_count_is n r) h)

from_nulls : (n : ℕ) (r : ZoneRecord) → Nulls n r → null_count_is n r ≡ true
from_nulls n [] i = absurd i
from_nulls n (x ∷ r) i = ⊎_elim
    (λ (e : (null_count, int_value (pos n)) ≡ x). or_left (counts n x.0 x.1) (null_count_is n r) (subst (λ (z : Aggregate × ValueData). counts n z.0 z.1 ≡ true) e (eq-eqb n n refl)))
    (λ j. or_right (counts n x.0 x.1) (null_count_is n r) (from_nulls n r j)) i

-- ---- filters

length_is : (n : ℕ) → is_filter_length n ≡ true → IsFilterLength n
length_is n h = record { whole = whole n h; some = some n h; few = few n h }
  where
    whole : (n : ℕ) → is_filter_length n ≡ true → n % 32 ≡ 0
    whole n h = grind (arith, nat_tests)

    some : (n : ℕ) → is_filter_length n ≡ true → 0 < n
    some n h = grind (arith, nat_tests)

    few : (n : ℕ) → is_filter_length n ≡ true → n / 32 < 2 ^ 32
    few n h = grind (arith, nat_tests)

is_length : (n : ℕ) → n % 32 ≡ 0 → 0 < n → n / 32 < 2 ^ 32 → is_filter_length n ≡ true
is_length n whole some few = grind (arith, nat_tests)

not_contained : (b : Bool) → not b ≡ true → b ≡ false
not_contained true h = cc
not_contained false h = refl

module _ (hash : List ℕ → ℕ) (t : Ty) (v : ValueData) where
  lacking_more : (x : Aggregate × ValueData) (r : ZoneRecord) → Lacking hash t v r → Lacking hash t v (x ∷ r)
  lacking_more x r l = record { blocks = l.blocks; stored = l.stored; listed = inr l.listed; whole = l.whole; lacks = l.lacks }

  one_lacking : (a : Aggregate) (u : ValueData) (r : ZoneRecord) → lacks hash t v a u ≡ true → Lacking hash t v ((a, u) ∷ r)
  one_lacking (bloom n) (bytes_value b) r h = record {
    blocks = n;
    stored = b;
    listed = inl refl;
    whole = length_is (length b) (and_parts (is_filter_length (length b)) _ h).0;
    lacks = not_contained (may_contain_hash (filter_at b) (value_hash hash t v)) (and_parts (is_filter_length (length b)) _ h).1;
  }
  one_lacking a u r h = absurd (true≢false (sym h))

  lacking_of : (r : ZoneRecord) → some_filter_lacks hash t v r ≡ true → Lacking hash t v r
  lacking_of [] h = absurd (true≢false (sym h))
  lacking_of (x ∷ r) h = ⊎_elim (λ e. one_lacking x.0 x.1 r e) (λ e. lacking_more x r (lacking_of r e)) (or_cases (lacks hash t v x.0 x.1) (some_filter_lacks hash t v r) h)

  lacking_here : (b : List ℕ) → IsFilterLength (length b) → may_contain_hash (filter_at b) (value_hash hash t v) ≡ false → bytes_lack hash t v b ≡ true
  lacking_here b w l = and_from (is_filter_length (length b)) (not (may_contain_hash (filter_at b) (value_hash hash t v))) (is_length (length b) w.whole w.some w.few) (ap not l)

  lacking_in : (r : ZoneRecord) (n : ℕ) (b : List ℕ) → In (bloom n, bytes_value b) r → bytes_lack hash t v b ≡ true → some_filter_lacks hash t v r ≡ true
  lacking_in [] n b i h = absurd i
  lacking_in (x ∷ r) n b i h = ⊎_elim
      (λ (e : (bloom n, bytes_value b) ≡ x). or_left (lacks hash t v x.0 x.1) (some_filter_lacks hash t v r) (subst (λ (z : Aggregate × ValueData). lacks hash t v z.0 z.1 ≡ true) e h))
      (λ j. or_right (lacks hash t v x.0 x.1) (some_filter_lacks hash t v r) (lacking_in r n b j h)) i

  from_lacking : (r : ZoneRecord) → Lacking hash t v r → some_filter_lacks hash t v r ≡ true
  from_lacking r l = lacking_in r l.blocks l.stored l.listed (lacking_here l.stored l.whole l.lacks)

-- ---- the table

-- either of two tests
or_of : {P Q : Type 0} (a b : Bool) → (a ≡ true → P) → (b ≡ true → Q) → (a || b) ≡ true → P ⊎ Q
or_of a b f g h = ⊎_elim (λ e. inl (f e)) (λ e. inr (g e)) (or_cases a b h)

of_or : {P Q : Type 0} (a b : Bool) → (P → a ≡ true) → (Q → b ≡ true) → P ⊎ Q → (a || b) ≡ true
of_or a b f g (inl p) = or_left a b (f p)
of_or a b f g (inr q) = or_right a b (g q)

module _ (hash : List ℕ → ℕ) (t : Ty) (r : ZoneRecord) (n : ℕ) where
  only : (p : Predicate) → ruled_out hash t r n p ≡ true → RulesOut hash t r n p
  only (eq v) h = ⊎_elim
      (λ a. ⊎_elim (λ e. inl (upper_of (λ u. value_lt u v) r e)) (λ e. inr (inl (lower_of (λ l. value_lt v l) r e))) (or_cases (some_upper (λ u. value_lt u v) r) (some_lower (λ l. value_lt v l) r) a))
      (λ a. ⊎_elim (λ e. inr (inr (inl (lacking_of hash t v r e)))) (λ e. inr (inr (inr (nulls_of n r e)))) (or_cases (some_filter_lacks hash t v r) (null_count_is n r) a))
      (or_cases (some_upper (λ u. value_lt u v) r || some_lower (λ l. value_lt v l) r) (some_filter_lacks hash t v r || null_count_is n r) h)
  only (not_eq v) h = or_of (some_upper (λ u. value_same u v) r && some_lower (λ l. value_same l v) r) (null_count_is n r)
      (λ e. (upper_of (λ u. value_same u v) r (and_parts (some_upper (λ u. value_same u v) r) _ e).0, lower_of (λ l. value_same l v) r (and_parts (some_upper (λ u. value_same u v) r) _ e).1)) (nulls_of n r) h
  only (lt v) h = or_of (some_lower (λ l. value_le v l) r) (null_count_is n r) (lower_of (λ l. value_le v l) r) (nulls_of n r) h
  only (lt_eq v) h = or_of (some_lower (λ l. value_lt v l) r) (null_count_is n r) (lower_of (λ l. value_lt v l) r) (nulls_of n r) h
  only (gt v) h = or_of (some_upper (λ u. value_le u v) r) (null_count_is n r) (upper_of (λ u. value_le u v) r) (nulls_of n r) h
  only (gt_eq v) h = or_of (some_upper (λ u. value_lt u v) r) (null_count_is n r) (upper_of (λ u. value_lt u v) r) (nulls_of n r) h
  only is_null h = nulls_of 0 r h
  only is_not_null h = nulls_of n r h
  only (both p q) h = or_of (ruled_out hash t r n p) (ruled_out hash t r n q) (only p) (only q) h
  only (either p q) h = (only p (and_parts (ruled_out hash t r n p) (ruled_out hash t r n q) h).0, only q (and_parts (ruled_out hash t r n p) (ruled_out hash t r n q) h).1)
  only (negated p) h = true≢false (sym h)

  whenever : (p : Predicate) → RulesOut hash t r n p → ruled_out hash t r n p ≡ true
  whenever (eq v) (inl u) = or_left (some_upper (λ u. value_lt u v) r || some_lower (λ l. value_lt v l) r) _ (or_left (some_upper (λ u. value_lt u v) r) _ (from_upper (λ u. value_lt u v) r u))
  whenever (eq v) (inr (inl l)) = or_left (some_upper (λ u. value_lt u v) r || some_lower (λ l. value_lt v l) r) _ (or_right (some_upper (λ u. value_lt u v) r) _ (from_lower (λ l. value_lt v l) r l))
  whenever (eq v) (inr (inr (inl l))) = or_right (some_upper (λ u. value_lt u v) r || some_lower (λ l. value_lt v l) r) _ (or_left (some_filter_lacks hash t v r) _ (from_lacking hash t v r l))
  whenever (eq v) (inr (inr (inr l))) = or_right (some_upper (λ u. value_lt u v) r || some_lower (λ l. value_lt v l) r) _ (or_right (some_filter_lacks hash t v r) _ (from_nulls n r l))
  whenever (not_eq v) h = of_or (some_upper (λ u. value_same u v) r && some_lower (λ l. value_same l v) r) (null_count_is n r)
      (λ (e : Upper (λ u. value_same u v) r × Lower (λ l. value_same l v) r). and_from (some_upper (λ u. value_same u v) r) _ (from_upper (λ u. value_same u v) r e.0) (from_lower (λ l. value_same l v) r e.1))
      (from_nulls n r) h
  whenever (lt v) h = of_or (some_lower (λ l. value_le v l) r) (null_count_is n r) (from_lower (λ l. value_le v l) r) (from_nulls n r) h
  whenever (lt_eq v) h = of_or (some_lower (λ l. value_lt v l) r) (null_count_is n r) (from_lower (λ l. value_lt v l) r) (from_nulls n r) h
  whenever (gt v) h = of_or (some_upper (λ u. value_le u v) r) (null_count_is n r) (from_upper (λ u. value_le u v) r) (from_nulls n r) h
  whenever (gt_eq v) h = of_or (some_upper (λ u. value_lt u v) r) (null_count_is n r) (from_upper (λ u. value_lt u v) r) (from_nulls n r) h
  whenever is_null h = from_nulls 0 r h
  whenever is_not_null h = from_nulls n r h
  whenever (both p q) h = of_or (ruled_out hash t r n p) (ruled_out hash t r n q) (whenever p) (whenever q) h
  whenever (either p q) h = and_from (ruled_out hash t r n p) (ruled_out hash t r n q) (whenever p h.0) (whenever q h.1)
  whenever (negated p) h = absurd h

pub table_is_exact : TableIsExact
table_is_exact hash t p r n = record { only = only hash t r n (pushed p); whenever = whenever hash t r n (pushed p) }
