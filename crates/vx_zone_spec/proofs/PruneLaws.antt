-- Pruning is sound.
use Rattle.std.proofs.Common.{◌≡◌, ℕ, ◌+◌, ◌≤◌, ◌⊎◌, ◌&&◌, ◌||◌, Bool, true, false, not, List, [], ◌∷◌, length, Option, Some, None, refl, sym, ap, ap₂, ◌∙◌, subst, inl, inr, ⊎_elim, arith, eqb-true}
use Rattle.std.specs.Prelude.{pos}
use Rattle.std.proofs.lemmas.Bool.{true≢false, or_cases, and_from, and_parts}
use Rattle.vx_model.specs.Ty.{Ty, boolean, primitive, utf8, binary, list, struct, extension, has_order}
use Rattle.vx_model.specs.ValueData.{ValueData, null_value, bool_value, int_value, text_value, bytes_value, list_value, struct_value, is_null_value}
use Rattle.vx_path.specs.Lists.{In}
use Rattle.vx_bloom_spec.specs.Values.{value_hashes}
use Rattle.vx_bloom_spec.specs.Bytes.{filter_bytes}
use Rattle.vx_bloom_spec.specs.Filter.{filter_of}
use Rattle.vx_aggregate_spec.specs.Aggregate.{Aggregate, maximum, minimum, bounded_maximum, bounded_minimum, null_count, sum, bloom}
use Rattle.vx_zone_spec.specs.ValueOrder.{value_le, value_lt, value_same}
use Rattle.vx_zone_spec.specs.Record.{aggregate_value, nulls}
use Rattle.vx_zone_spec.specs.Pruning.{Predicate, ZoneRecord, eq, not_eq, lt, lt_eq, gt, gt_eq, is_null, is_not_null, both, either, negated, both_of, either_of, not_of, compared, says, upper_passes, lower_passes, some_upper, some_lower, counts, null_count_is, ruled_out, pushed, opposite, predicate_fits, bytes_lack, lacks, some_filter_lacks}
use Rattle.vx_zone_spec.specs.Statements.{AllValues, SmallHash, IsRecord, PruningIsSound, is_pushed, NotIsPushed}
use Rattle.vx_zone_spec.proofs.Sorts.{Sort, truths, numbers, texts, blobs, nested, has_sort, AllSort, Literal, Literals, sort_of, value_sort, values_sort, literals_sort, value_in}
use Rattle.vx_zone_spec.proofs.OrderLaws.{lt_not_ge, le_trans, Pair, pair_of, not_lt, not_le, same_equal}
use Rattle.vx_zone_spec.proofs.BoundLaws.{at_most, at_least, within_upper, within_lower}
use Rattle.vx_zone_spec.proofs.FilterLaws.{stored_contains}

-- ---- Not at the leaves

opposite_compared : (w : ValueData) (a b : Bool) → ((w ≡ null_value → ⊥) → not a ≡ b) → compared w b ≡ not_of (compared w a)
opposite_compared null_value a b f = refl
opposite_compared (bool_value x) a b f = ap Some (sym (f (λ e. true≢false (ap is_null_value (sym e)))))
opposite_compared (int_value x) a b f = ap Some (sym (f (λ e. true≢false (ap is_null_value (sym e)))))
opposite_compared (text_value x) a b f = ap Some (sym (f (λ e. true≢false (ap is_null_value (sym e)))))
opposite_compared (bytes_value x) a b f = ap Some (sym (f (λ e. true≢false (ap is_null_value (sym e)))))
opposite_compared (list_value x) a b f = ap Some (sym (f (λ e. true≢false (ap is_null_value (sym e)))))
opposite_compared (struct_value x) a b f = ap Some (sym (f (λ e. true≢false (ap is_null_value (sym e)))))

double_not : (o : Option Bool) → not_of (not_of o) ≡ o
double_not None = refl
double_not (Some true) = refl
double_not (Some false) = refl

not_both : (a b : Option Bool) → not_of (both_of a b) ≡ either_of (not_of a) (not_of b)
not_both None None = refl
not_both None (Some true) = refl
not_both None (Some false) = refl
not_both (Some true) None = refl
not_both (Some true) (Some true) = refl
not_both (Some true) (Some false) = refl
not_both (Some false) None = refl
not_both (Some false) (Some true) = refl
not_both (Some false) (Some false) = refl

not_either : (a b : Option Bool) → not_of (either_of a b) ≡ both_of (not_of a) (not_of b)
not_either None None = refl
not_either None (Some true) = refl
not_either None (Some false) = refl
not_either (Some true) None = refl
not_either (Some true) (Some true) = refl
not_either (Some true) (Some false) = refl
not_either (Some false) None = refl
not_either (Some false) (Some true) = refl
not_either (Some false) (Some false) = refl

not_not : (b : Bool) → not (not b) ≡ b
not_not true = refl
not_not false = refl

literal_of : (s : Sort) (v w : ValueData) → Literal s v → has_sort s w ≡ true → (w ≡ null_value → ⊥) → Literal s w
literal_of s v null_value l h m = absurd (m refl)
literal_of truths v (bool_value b) l h m = tt
literal_of numbers v (int_value b) l h m = tt
literal_of texts v (text_value b) l h m = tt
literal_of blobs v (bytes_value b) l h m = tt
literal_of nested v w l h m = absurd l
literal_of s v w l h m = absurd (true≢false (sym h))

module _ (s : Sort) (w : ValueData) (has : has_sort s w ≡ true) where
  two : (v : ValueData) → Literal s v → (w ≡ null_value → ⊥) → Pair s w v
  two v l m = pair_of s w v (literal_of s v w l has m) l

  two_back : (v : ValueData) → Literal s v → (w ≡ null_value → ⊥) → Pair s v w
  two_back v l m = pair_of s v w l (literal_of s v w l has m)

  mutual
    pushed_says : (p : Predicate) → Literals s p → says (pushed p) w ≡ says p w
    pushed_says (eq v) l = refl
    pushed_says (not_eq v) l = refl
    pushed_says (lt v) l = refl
    pushed_says (lt_eq v) l = refl
    pushed_says (gt v) l = refl
    pushed_says (gt_eq v) l = refl
    pushed_says is_null l = refl
    pushed_says is_not_null l = refl
    pushed_says (both p q) l = ap₂ both_of (pushed_says p l.0) (pushed_says q l.1)
    pushed_says (either p q) l = ap₂ either_of (pushed_says p l.0) (pushed_says q l.1)
    pushed_says (negated p) l = opposite_says p l

    opposite_says : (p : Predicate) → Literals s p → says (opposite p) w ≡ not_of (says p w)
    opposite_says (eq v) l = opposite_compared w (value_same w v) (not (value_same w v)) (λ m. refl)
    opposite_says (not_eq v) l = opposite_compared w (not (value_same w v)) (value_same w v) (λ m. not_not (value_same w v))
    opposite_says (lt v) l = opposite_compared w (value_lt w v) (value_le v w) (λ m. not_lt s v w (two_back v l m))
    opposite_says (lt_eq v) l = opposite_compared w (value_le w v) (value_lt v w) (λ m. not_le s v w (two_back v l m))
    opposite_says (gt v) l = opposite_compared w (value_lt v w) (value_le w v) (λ m. not_lt s w v (two v l m))
    opposite_says (gt_eq v) l = opposite_compared w (value_le v w) (value_lt w v) (λ m. not_le s w v (two v l m))
    opposite_says is_null l = refl
    opposite_says is_not_null l = ap Some (sym (not_not (is_null_value w)))
    opposite_says (both p q) l = ap₂ either_of (opposite_says p l.0) (opposite_says q l.1) ∙ sym (not_both (says p w) (says q w))
    opposite_says (either p q) l = ap₂ both_of (opposite_says p l.0) (opposite_says q l.1) ∙ sym (not_either (says p w) (says q w))
    opposite_says (negated p) l = pushed_says p l ∙ sym (double_not (says p w))

-- ---- what a record tells

not_nested : (s : Sort) (v : ValueData) → Literal s v → s ≡ nested → ⊥
not_nested s v l e = none v (subst (λ z. Literal z v) e l)
  where
    none : (v : ValueData) → Literal nested v → ⊥
    none null_value l = l
    none (bool_value b) l = l
    none (int_value b) l = l
    none (text_value b) l = l
    none (bytes_value b) l = l
    none (list_value b) l = l
    none (struct_value b) l = l

not_null : (u : ValueData) → not (is_null_value u) ≡ true → u ≡ null_value → ⊥
not_null u h e = true≢false (sym (subst (λ z. not (is_null_value z) ≡ true) e h))

module _ (hash : List ℕ → ℕ) (t : Ty) (s : Sort) (vs : List ValueData) (all : AllSort s vs) (n : s ≡ nested → ⊥) where
  abbrev Above : (ValueData → Bool) → Type 0
  Above f = (u : ValueData) × (f u ≡ true) × ((w : ValueData) → In w vs → (w ≡ null_value → ⊥) → value_le w u ≡ true)

  abbrev Beneath : (ValueData → Bool) → Type 0
  Beneath f = (u : ValueData) × (f u ≡ true) × ((w : ValueData) → In w vs → (w ≡ null_value → ⊥) → value_le u w ≡ true)

  one_upper : (f : ValueData → Bool) (a : Aggregate) (u : ValueData) → u ≡ aggregate_value hash t vs a → upper_passes f a u ≡ true → Above f
  one_upper f maximum u e h = (u, (and_parts (not (is_null_value u)) (f u) h).1, λ w i m. subst (λ z. value_le w z ≡ true) (sym e) (at_most s n vs all w i m))
  one_upper f (bounded_maximum k) u e h = (
    u,
    (and_parts (not (is_null_value u)) (f u) h).1,
    λ w i m. subst (λ z. value_le w z ≡ true) (sym e)
        (within_upper s n vs all k w i m (λ z. not_null u (and_parts (not (is_null_value u)) (f u) h).0 (e ∙ z))),
  )
  one_upper f minimum u e h = absurd (true≢false (sym h))
  one_upper f (bounded_minimum k) u e h = absurd (true≢false (sym h))
  one_upper f null_count u e h = absurd (true≢false (sym h))
  one_upper f sum u e h = absurd (true≢false (sym h))
  one_upper f (bloom k) u e h = absurd (true≢false (sym h))

  one_lower : (f : ValueData → Bool) (a : Aggregate) (u : ValueData) → u ≡ aggregate_value hash t vs a → lower_passes f a u ≡ true → Beneath f
  one_lower f minimum u e h = (u, (and_parts (not (is_null_value u)) (f u) h).1, λ w i m. subst (λ z. value_le z w ≡ true) (sym e) (at_least s n vs all w i m))
  one_lower f (bounded_minimum k) u e h = (u, (and_parts (not (is_null_value u)) (f u) h).1, λ w i m. subst (λ z. value_le z w ≡ true) (sym e) (within_lower s n vs all k w i m))
  one_lower f maximum u e h = absurd (true≢false (sym h))
  one_lower f (bounded_maximum k) u e h = absurd (true≢false (sym h))
  one_lower f null_count u e h = absurd (true≢false (sym h))
  one_lower f sum u e h = absurd (true≢false (sym h))
  one_lower f (bloom k) u e h = absurd (true≢false (sym h))

  upper_found : (f : ValueData → Bool) (r : ZoneRecord) → IsRecord hash t vs r → some_upper f r ≡ true → Above f
  upper_found f [] rec h = absurd (true≢false (sym h))
  upper_found f (a ∷ r) rec h = ⊎_elim (λ x. one_upper f a.0 a.1 rec.0 x) (λ x. upper_found f r rec.1 x) (or_cases (upper_passes f a.0 a.1) (some_upper f r) h)

  lower_found : (f : ValueData → Bool) (r : ZoneRecord) → IsRecord hash t vs r → some_lower f r ≡ true → Beneath f
  lower_found f [] rec h = absurd (true≢false (sym h))
  lower_found f (a ∷ r) rec h = ⊎_elim (λ x. one_lower f a.0 a.1 rec.0 x) (λ x. lower_found f r rec.1 x) (or_cases (lower_passes f a.0 a.1) (some_lower f r) h)

-- null counts

number_in : ValueData → ℕ
number_in (int_value (pos k)) = k
number_in v = 0

one_count : (hash : List ℕ → ℕ) (t : Ty) (vs : List ValueData) (k : ℕ) (a : Aggregate) (v : ValueData) → v ≡ aggregate_value hash t vs a → counts k a v ≡ true → nulls vs ≡ k
unfolding number_in
one_count hash t vs k null_count (int_value (pos j)) e h = ap number_in (sym e) ∙ eqb-true j k h
one_count hash t vs k a v e h = cc

count_found : (hash : List ℕ → ℕ) (t : Ty) (vs : List ValueData) (k : ℕ) (r : ZoneRecord) → IsRecord hash t vs r → null_count_is k r ≡ true → nulls vs ≡ k
count_found hash t vs k [] rec h = absurd (true≢false (sym h))
count_found hash t vs k (a ∷ r) rec h = ⊎_elim (λ x. one_count hash t vs k a.0 a.1 rec.0 x) (λ x. count_found hash t vs k r rec.1 x) (or_cases (counts k a.0 a.1) (null_count_is k r) h)

nulls_of : ValueData → ℕ
nulls_of null_value = 1
nulls_of v = 0

nulls_step : (v : ValueData) (vs : List ValueData) → nulls (v ∷ vs) ≡ nulls_of v + nulls vs
unfolding nulls_of
nulls_step null_value vs = omega arith
nulls_step (bool_value b) vs = omega arith
nulls_step (int_value b) vs = omega arith
nulls_step (text_value b) vs = omega arith
nulls_step (bytes_value b) vs = omega arith
nulls_step (list_value b) vs = omega arith
nulls_step (struct_value b) vs = omega arith

at_most_one : (v : ValueData) → nulls_of v ≤ 1
unfolding nulls_of
at_most_one null_value = omega arith
at_most_one (bool_value b) = omega arith
at_most_one (int_value b) = omega arith
at_most_one (text_value b) = omega arith
at_most_one (bytes_value b) = omega arith
at_most_one (list_value b) = omega arith
at_most_one (struct_value b) = omega arith

one_null : (v : ValueData) → nulls_of v ≡ 1 → v ≡ null_value
unfolding nulls_of
one_null null_value e = refl
one_null (bool_value b) e = absurd (omega arith)
one_null (int_value b) e = absurd (omega arith)
one_null (text_value b) e = absurd (omega arith)
one_null (bytes_value b) e = absurd (omega arith)
one_null (list_value b) e = absurd (omega arith)
one_null (struct_value b) e = absurd (omega arith)

nulls_le : (vs : List ValueData) → nulls vs ≤ length vs
nulls_le [] = omega arith
nulls_le (v ∷ vs) =
    let a : nulls (v ∷ vs) ≡ nulls_of v + nulls vs = nulls_step v vs in let b : nulls_of v ≤ 1 = at_most_one v in let c : nulls vs ≤ length vs = nulls_le vs in omega arith

all_null : (vs : List ValueData) → nulls vs ≡ length vs → (w : ValueData) → In w vs → w ≡ null_value
all_null [] e w i = absurd i
all_null (v ∷ vs) e w i =
    let a : nulls (v ∷ vs) ≡ nulls_of v + nulls vs = nulls_step v vs in
    let b : nulls_of v ≤ 1 = at_most_one v in
    let c : nulls vs ≤ length vs = nulls_le vs in
    ⊎_elim (λ x. x ∙ one_null v (omega arith)) (λ j. all_null vs (omega arith) w j) i

not_zero : nulls_of null_value ≡ 0 → ⊥
unfolding nulls_of
not_zero y = absurd (omega arith)

no_null : (vs : List ValueData) → nulls vs ≡ 0 → (w : ValueData) → In w vs → w ≡ null_value → ⊥
no_null [] e w i m = absurd i
no_null (v ∷ vs) e w i m =
    let a : nulls (v ∷ vs) ≡ nulls_of v + nulls vs = nulls_step v vs in
    ⊎_elim (λ x. is_one v (sym x ∙ m) (let z : nulls_of v ≡ 0 = omega arith in z)) (λ j. no_null vs (omega arith) w j m) i
  where
    is_one : (v : ValueData) → v ≡ null_value → nulls_of v ≡ 0 → ⊥
    is_one v e z = not_zero (subst (λ u. nulls_of u ≡ 0) e z)

-- ---- pruning

-- a comparison that is true is of a value that isn't null
said : (w : ValueData) (b : Bool) → compared w b ≡ Some true → (w ≡ null_value → ⊥) × (b ≡ true)
said null_value b h = cc
said (bool_value x) b h = ((λ e. true≢false (ap is_null_value (sym e))), (let f : b ≡ true = cc in f))
said (int_value x) b h = ((λ e. true≢false (ap is_null_value (sym e))), (let f : b ≡ true = cc in f))
said (text_value x) b h = ((λ e. true≢false (ap is_null_value (sym e))), (let f : b ≡ true = cc in f))
said (bytes_value x) b h = ((λ e. true≢false (ap is_null_value (sym e))), (let f : b ≡ true = cc in f))
said (list_value x) b h = ((λ e. true≢false (ap is_null_value (sym e))), (let f : b ≡ true = cc in f))
said (struct_value x) b h = ((λ e. true≢false (ap is_null_value (sym e))), (let f : b ≡ true = cc in f))

both_true : (a b : Option Bool) → both_of a b ≡ Some true → (a ≡ Some true) × (b ≡ Some true)
both_true None None h = cc
both_true None (Some true) h = cc
both_true None (Some false) h = cc
both_true (Some true) None h = cc
both_true (Some true) (Some true) h = (refl, refl)
both_true (Some true) (Some false) h = cc
both_true (Some false) None h = cc
both_true (Some false) (Some true) h = cc
both_true (Some false) (Some false) h = cc

either_true : (a b : Option Bool) → either_of a b ≡ Some true → (a ≡ Some true) ⊎ (b ≡ Some true)
either_true None None h = cc
either_true None (Some true) h = inr refl
either_true None (Some false) h = cc
either_true (Some true) None h = inl refl
either_true (Some true) (Some true) h = inl refl
either_true (Some true) (Some false) h = inl refl
either_true (Some false) None h = cc
either_true (Some false) (Some true) h = inr refl
either_true (Some false) (Some false) h = cc

null_row : (w : ValueData) → Some (is_null_value w) ≡ Some true → w ≡ null_value
null_row null_value h = refl
null_row (bool_value b) h = cc
null_row (int_value b) h = cc
null_row (text_value b) h = cc
null_row (bytes_value b) h = cc
null_row (list_value b) h = cc
null_row (struct_value b) h = cc

not_null_row : (w : ValueData) → Some (not (is_null_value w)) ≡ Some true → w ≡ null_value → ⊥
not_null_row w h e = true≢false (some_same (sym (subst (λ z. Some (not (is_null_value z)) ≡ Some true) e h)))
  where
    some_same : {a b : Bool} → Some a ≡ Some b → a ≡ b
    some_same h = cc

-- no value of the zone is the same as one that a filter of its record lacks
filter_found : (hash : List ℕ → ℕ) (t : Ty) (vs : List ValueData) (v : ValueData) → SmallHash hash → has_order t ≡ true → AllValues t vs → In v vs → (v ≡ null_value → ⊥)
    → (r : ZoneRecord) → IsRecord hash t vs r → some_filter_lacks hash t v r ≡ true → ⊥
filter_found hash t vs v small o all i n [] rec h = true≢false (sym h)
filter_found hash t vs v small o all i n (a ∷ r) rec h =
    ⊎_elim (λ x. one a.0 a.1 rec.0 x) (λ x. filter_found hash t vs v small o all i n r rec.1 x) (or_cases (lacks hash t v a.0 a.1) (some_filter_lacks hash t v r) h)
  where
    stored : (k : ℕ) (b : List ℕ) → bytes_value b ≡ aggregate_value hash t vs (bloom k) → bytes_lack hash t v b ≡ true → ⊥
    stored k b e h =
        let same : b ≡ filter_bytes (filter_of k (value_hashes hash t vs)) = cc in
        stored_contains hash t k vs v small o all i n (subst (λ z. bytes_lack hash t v z ≡ true) same h)

    one : (a : Aggregate) (u : ValueData) → u ≡ aggregate_value hash t vs a → lacks hash t v a u ≡ true → ⊥
    one (bloom k) (bytes_value b) e h = stored k b e h
    one (bloom k) null_value e h = true≢false (sym h)
    one (bloom k) (bool_value b) e h = true≢false (sym h)
    one (bloom k) (int_value b) e h = true≢false (sym h)
    one (bloom k) (text_value b) e h = true≢false (sym h)
    one (bloom k) (list_value b) e h = true≢false (sym h)
    one (bloom k) (struct_value b) e h = true≢false (sym h)
    one maximum u e h = true≢false (sym h)
    one minimum u e h = true≢false (sym h)
    one (bounded_maximum k) u e h = true≢false (sym h)
    one (bounded_minimum k) u e h = true≢false (sym h)
    one null_count u e h = true≢false (sym h)
    one sum u e h = true≢false (sym h)

module _ (hash : List ℕ → ℕ) (t : Ty) (s : Sort) (vs : List ValueData) (r : ZoneRecord) (all : AllSort s vs) (rec : IsRecord hash t vs r)
    (excluded : (v : ValueData) → Literal s v → In v vs → some_filter_lacks hash t v r ≡ true → ⊥) where
  -- every row is null
  nulls_only : null_count_is (length vs) r ≡ true → (w : ValueData) → In w vs → (w ≡ null_value → ⊥) → ⊥
  nulls_only h w i m = m (all_null vs (count_found hash t vs (length vs) r rec h) w i)

  rules : (p : Predicate) → Literals s p → ruled_out hash t r (length vs) p ≡ true → (w : ValueData) → In w vs → says p w ≡ Some true → ⊥
  rules (eq v) l h w i e =
      let c : (w ≡ null_value → ⊥) × (value_same w v ≡ true) = said w (value_same w v) e in
      let low : value_le w v ≡ true = (and_parts (value_le w v) (value_le v w) c.1).0 in
      let high : value_le v w ≡ true = (and_parts (value_le w v) (value_le v w) c.1).1 in
      ⊎_elim
      (λ b. ⊎_elim
      (λ x. let u = upper_found hash t s vs all (not_nested s v l) (λ u. value_lt u v) r rec x in lt_not_ge u.0 v u.1 (le_trans v w u.0 high (u.2 w i c.0)))
      (λ x. let u = lower_found hash t s vs all (not_nested s v l) (λ u. value_lt v u) r rec x in lt_not_ge v u.0 u.1 (le_trans u.0 w v (u.2 w i c.0) low))
      (or_cases (some_upper (λ u. value_lt u v) r) (some_lower (λ u. value_lt v u) r) b))
      (λ b. ⊎_elim (λ x. excluded v l (subst (λ z. In z vs) (same_equal w v c.1) i) x) (λ x. nulls_only x w i c.0) (or_cases (some_filter_lacks hash t v r) (null_count_is (length vs) r) b))
      (or_cases (some_upper (λ u. value_lt u v) r || some_lower (λ u. value_lt v u) r) (some_filter_lacks hash t v r || null_count_is (length vs) r) h)
  rules (not_eq v) l h w i e =
      let c : (w ≡ null_value → ⊥) × (not (value_same w v) ≡ true) = said w (not (value_same w v)) e in
      ⊎_elim
      (λ b.
      let u = upper_found hash t s vs all (not_nested s v l) (λ u. value_same u v) r rec (and_parts (some_upper (λ u. value_same u v) r) (some_lower (λ u. value_same u v) r) b).0 in
      let d = lower_found hash t s vs all (not_nested s v l) (λ u. value_same u v) r rec (and_parts (some_upper (λ u. value_same u v) r) (some_lower (λ u. value_same u v) r) b).1 in
      let low : value_le w v ≡ true = le_trans w u.0 v (u.2 w i c.0) (and_parts (value_le u.0 v) (value_le v u.0) u.1).0 in
      let high : value_le v w ≡ true = le_trans v d.0 w (and_parts (value_le d.0 v) (value_le v d.0) d.1).1 (d.2 w i c.0) in
      true≢false (sym (sym (ap not (ap₂ (λ a b. a && b) low high)) ∙ c.1)))
      (λ b. nulls_only b w i c.0)
      (or_cases (some_upper (λ u. value_same u v) r && some_lower (λ u. value_same u v) r) (null_count_is (length vs) r) h)
  rules (lt v) l h w i e =
      let c : (w ≡ null_value → ⊥) × (value_lt w v ≡ true) = said w (value_lt w v) e in
      ⊎_elim
      (λ x. let u = lower_found hash t s vs all (not_nested s v l) (λ u. value_le v u) r rec x in lt_not_ge w v c.1 (le_trans v u.0 w u.1 (u.2 w i c.0)))
      (λ x. nulls_only x w i c.0) (or_cases (some_lower (λ u. value_le v u) r) (null_count_is (length vs) r) h)
  rules (lt_eq v) l h w i e =
      let c : (w ≡ null_value → ⊥) × (value_le w v ≡ true) = said w (value_le w v) e in
      ⊎_elim
      (λ x. let u = lower_found hash t s vs all (not_nested s v l) (λ u. value_lt v u) r rec x in lt_not_ge v u.0 u.1 (le_trans u.0 w v (u.2 w i c.0) c.1))
      (λ x. nulls_only x w i c.0) (or_cases (some_lower (λ u. value_lt v u) r) (null_count_is (length vs) r) h)
  rules (gt v) l h w i e =
      let c : (w ≡ null_value → ⊥) × (value_lt v w ≡ true) = said w (value_lt v w) e in
      ⊎_elim
      (λ x. let u = upper_found hash t s vs all (not_nested s v l) (λ u. value_le u v) r rec x in lt_not_ge v w c.1 (le_trans w u.0 v (u.2 w i c.0) u.1))
      (λ x. nulls_only x w i c.0) (or_cases (some_upper (λ u. value_le u v) r) (null_count_is (length vs) r) h)
  rules (gt_eq v) l h w i e =
      let c : (w ≡ null_value → ⊥) × (value_le v w ≡ true) = said w (value_le v w) e in
      ⊎_elim
      (λ x. let u = upper_found hash t s vs all (not_nested s v l) (λ u. value_lt u v) r rec x in lt_not_ge u.0 v u.1 (le_trans v w u.0 c.1 (u.2 w i c.0)))
      (λ x. nulls_only x w i c.0) (or_cases (some_upper (λ u. value_lt u v) r) (null_count_is (length vs) r) h)
  rules is_null l h w i e = no_null vs (count_found hash t vs 0 r rec h) w i (null_row w e)
  rules is_not_null l h w i e = nulls_only h w i (not_null_row w e)
  rules (both p q) l h w i e =
      let c : (says p w ≡ Some true) × (says q w ≡ Some true) = both_true (says p w) (says q w) e in
      ⊎_elim (λ x. rules p l.0 x w i c.0) (λ x. rules q l.1 x w i c.1) (or_cases (ruled_out hash t r (length vs) p) (ruled_out hash t r (length vs) q) h)
  rules (either p q) l h w i e =
      ⊎_elim (λ c. rules p l.0 (and_parts (ruled_out hash t r (length vs) p) (ruled_out hash t r (length vs) q) h).0 w i c)
      (λ c. rules q l.1 (and_parts (ruled_out hash t r (length vs) p) (ruled_out hash t r (length vs) q) h).1 w i c) (either_true (says p w) (says q w) e)
  rules (negated p) l h w i e = true≢false (sym h)

mutual
  pushed_literals : (s : Sort) (p : Predicate) → Literals s p → Literals s (pushed p)
  pushed_literals s (eq v) l = l
  pushed_literals s (not_eq v) l = l
  pushed_literals s (lt v) l = l
  pushed_literals s (lt_eq v) l = l
  pushed_literals s (gt v) l = l
  pushed_literals s (gt_eq v) l = l
  pushed_literals s is_null l = l
  pushed_literals s is_not_null l = l
  pushed_literals s (both p q) l = (pushed_literals s p l.0, pushed_literals s q l.1)
  pushed_literals s (either p q) l = (pushed_literals s p l.0, pushed_literals s q l.1)
  pushed_literals s (negated p) l = opposite_literals s p l

  opposite_literals : (s : Sort) (p : Predicate) → Literals s p → Literals s (opposite p)
  opposite_literals s (eq v) l = l
  opposite_literals s (not_eq v) l = l
  opposite_literals s (lt v) l = l
  opposite_literals s (lt_eq v) l = l
  opposite_literals s (gt v) l = l
  opposite_literals s (gt_eq v) l = l
  opposite_literals s is_null l = l
  opposite_literals s is_not_null l = l
  opposite_literals s (both p q) l = (opposite_literals s p l.0, opposite_literals s q l.1)
  opposite_literals s (either p q) l = (opposite_literals s p l.0, opposite_literals s q l.1)
  opposite_literals s (negated p) l = pushed_literals s p l

literal_not_null : (s : Sort) (v : ValueData) → Literal s v → v ≡ null_value → ⊥
literal_not_null truths (bool_value b) l e = true≢false (ap is_null_value (sym e))
literal_not_null numbers (int_value b) l e = true≢false (ap is_null_value (sym e))
literal_not_null texts (text_value b) l e = true≢false (ap is_null_value (sym e))
literal_not_null blobs (bytes_value b) l e = true≢false (ap is_null_value (sym e))
literal_not_null s v l e = absurd l

-- a type with a literal has an order
literal_order : (t : Ty) (v : ValueData) → Literal (sort_of t) v → has_order t ≡ true
literal_order (boolean n) v l = refl
literal_order (primitive p n) v l = refl
literal_order (utf8 n) v l = refl
literal_order (binary n) v l = refl
literal_order (list t n) v l = absurd (not_nested nested v l refl)
literal_order (struct fs n) v l = absurd (not_nested nested v l refl)
literal_order (extension tag t) v l = literal_order t v l

pub pruning_is_sound : PruningIsSound
pruning_is_sound hash t p vs r small all fits rec h w i e =
    let s : Sort = sort_of t in
    let l : Literals (sort_of t) p = literals_sort t p fits in
    rules hash t (sort_of t) vs r (values_sort t vs all) rec
    (λ v k j x. filter_found hash t vs v small (literal_order t v k) all j (literal_not_null (sort_of t) v k) r rec x)
    (pushed p) (pushed_literals (sort_of t) p l) h w i (pushed_says (sort_of t) w (value_sort t w (value_in t vs w all i)) p l ∙ e)

-- ---- Not at the leaves

mutual
  pushed_leaves : (p : Predicate) → is_pushed (pushed p) ≡ true
  pushed_leaves (eq v) = refl
  pushed_leaves (not_eq v) = refl
  pushed_leaves (lt v) = refl
  pushed_leaves (lt_eq v) = refl
  pushed_leaves (gt v) = refl
  pushed_leaves (gt_eq v) = refl
  pushed_leaves is_null = refl
  pushed_leaves is_not_null = refl
  pushed_leaves (both p q) = and_from (is_pushed (pushed p)) (is_pushed (pushed q)) (pushed_leaves p) (pushed_leaves q)
  pushed_leaves (either p q) = and_from (is_pushed (pushed p)) (is_pushed (pushed q)) (pushed_leaves p) (pushed_leaves q)
  pushed_leaves (negated p) = opposite_leaves p

  opposite_leaves : (p : Predicate) → is_pushed (opposite p) ≡ true
  opposite_leaves (eq v) = refl
  opposite_leaves (not_eq v) = refl
  opposite_leaves (lt v) = refl
  opposite_leaves (lt_eq v) = refl
  opposite_leaves (gt v) = refl
  opposite_leaves (gt_eq v) = refl
  opposite_leaves is_null = refl
  opposite_leaves is_not_null = refl
  opposite_leaves (both p q) = and_from (is_pushed (opposite p)) (is_pushed (opposite q)) (opposite_leaves p) (opposite_leaves q)
  opposite_leaves (either p q) = and_from (is_pushed (opposite p)) (is_pushed (opposite q)) (opposite_leaves p) (opposite_leaves q)
  opposite_leaves (negated p) = pushed_leaves p

mutual
  pushed_fits : (t : Ty) (p : Predicate) → predicate_fits t p ≡ true → predicate_fits t (pushed p) ≡ true
  pushed_fits t (eq v) h = h
  pushed_fits t (not_eq v) h = h
  pushed_fits t (lt v) h = h
  pushed_fits t (lt_eq v) h = h
  pushed_fits t (gt v) h = h
  pushed_fits t (gt_eq v) h = h
  pushed_fits t is_null h = h
  pushed_fits t is_not_null h = h
  pushed_fits t (both p q) h =
      and_from (predicate_fits t (pushed p)) (predicate_fits t (pushed q)) (pushed_fits t p (and_parts (predicate_fits t p) (predicate_fits t q) h).0) (pushed_fits t q (and_parts (predicate_fits t p) (predicate_fits t q) h).1)
  pushed_fits t (either p q) h =
      and_from (predicate_fits t (pushed p)) (predicate_fits t (pushed q)) (pushed_fits t p (and_parts (predicate_fits t p) (predicate_fits t q) h).0) (pushed_fits t q (and_parts (predicate_fits t p) (predicate_fits t q) h).1)
  pushed_fits t (negated p) h = opposite_fits t p h

  opposite_fits : (t : Ty) (p : Predicate) → predicate_fits t p ≡ true → predicate_fits t (opposite p) ≡ true
  opposite_fits t (eq v) h = h
  opposite_fits t (not_eq v) h = h
  opposite_fits t (lt v) h = h
  opposite_fits t (lt_eq v) h = h
  opposite_fits t (gt v) h = h
  opposite_fits t (gt_eq v) h = h
  opposite_fits t is_null h = h
  opposite_fits t is_not_null h = h
  opposite_fits t (both p q) h =
      and_from (predicate_fits t (opposite p)) (predicate_fits t (opposite q)) (opposite_fits t p (and_parts (predicate_fits t p) (predicate_fits t q) h).0) (opposite_fits t q (and_parts (predicate_fits t p) (predicate_fits t q) h).1)
  opposite_fits t (either p q) h =
      and_from (predicate_fits t (opposite p)) (predicate_fits t (opposite q)) (opposite_fits t p (and_parts (predicate_fits t p) (predicate_fits t q) h).0) (opposite_fits t q (and_parts (predicate_fits t p) (predicate_fits t q) h).1)
  opposite_fits t (negated p) h = pushed_fits t p h

pub not_is_pushed : NotIsPushed
not_is_pushed t p = record {
  leaves = pushed_leaves p;
  fits = pushed_fits t p;
  same = λ f w h. pushed_says (sort_of t) w (value_sort t w h) p (literals_sort t p f);
}
