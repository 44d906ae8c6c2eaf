-- A record's values are those of its columns.
use Rattle.std.proofs.Common.{◌≡◌, ℕ, suc, ◌<◌, ◌≤◌, ◌^◌, ◌⊎◌, Bool, true, false, List, [], ◌∷◌, ◌++◌, map, length, take, refl, sym, subst, ap, ◌∙◌, inl, inr, ⊎_elim, arith, Option, Some, None}
use Rattle.std.specs.Prelude.{is_some, if◌then◌else◌, nat_le, pos, ℤ}
use Rattle.std.specs.Str.{chars, encode_utf8_all}
use Rattle.std.proofs.lemmas.Bool.{true≢false, and_from, and_parts}
use Rattle.std.proofs.lemmas.Bool.Decides.{nat_tests}
use Rattle.vx_model.specs.declared.ptype.PType.{PType}
use Rattle.vx_model.specs.declared.ptype.PType.TheVariants.{U64}
use Rattle.vx_model.specs.Words.{all_by}
use Rattle.vx_model.specs.Numbers.{int_fits}
use Rattle.vx_model.specs.Ty.{Ty, boolean, primitive, utf8, binary, list, struct, extension}
use Rattle.vx_model.specs.CellData.{int_cell, fits}
use Rattle.vx_model.specs.ValueData.{ValueData, null_value, bool_value, int_value, text_value, bytes_value, list_value, struct_value, is_row_value}
use Rattle.vx_bloom_spec.specs.Filter.{filter_of}
use Rattle.vx_bloom_spec.specs.Bytes.{filter_bytes}
use Rattle.vx_bloom_spec.specs.Values.{value_hashes}
use Rattle.vx_aggregate_spec.specs.Aggregate.{Aggregate, maximum, minimum, bounded_maximum, bounded_minimum, null_count, sum, bloom, bound_state, byte_bound_state, sum_state, sum_of_type, filter_state, state_type, with_state, held_aggregates}
use Rattle.vx_zone_spec.specs.Bounds.{front_chars, byte_rises, char_rises, next_char, raised_last, upper_bound, lower_bound, text_or_null, bytes_or_null}
use Rattle.vx_zone_spec.specs.ValueOrder.{value_le, greater, lesser, greatest, least}
use Rattle.vx_zone_spec.specs.Record.{nulls, exact_sum, sum_value, aggregate_value}
use Rattle.vx_zone_spec.specs.ZoneTable.{state_cell}
use Rattle.vx_zone_record_spec.specs.Held.{has_state, record_fits}

-- the values of aggregates
abbrev pub values_of : (List ℕ → ℕ) → Ty → List ValueData → List Aggregate → List ValueData
values_of hash t vs gs = map (aggregate_value hash t vs) gs

abbrev Fits : Ty → ValueData → Type 0
Fits u v = fits u (state_cell v) ≡ true

no_state : {A : Type 0} (u : A) → None ≡ Some u → ⊥
no_state u e = absurd (Rattle.std.proofs.lemmas.Option.none-some u e)

row_fits_state : (t u : Ty) (v : ValueData) → bound_state t ≡ Some u → is_row_value t v ≡ true → Fits u v
row_fits_state (boolean n) u null_value e f = let s : boolean true ≡ u = cc in subst (λ z. Fits z null_value) s refl
row_fits_state (boolean n) u (bool_value b) e f = let s : boolean true ≡ u = cc in subst (λ z. Fits z (bool_value b)) s refl
row_fits_state (primitive p n) u null_value e f = let s : primitive p true ≡ u = cc in subst (λ z. Fits z null_value) s refl
row_fits_state (primitive p n) u (int_value i) e f = let s : primitive p true ≡ u = cc in subst (λ z. Fits z (int_value i)) s f
row_fits_state (utf8 n) u null_value e f = let s : utf8 true ≡ u = cc in subst (λ z. Fits z null_value) s refl
row_fits_state (utf8 n) u (text_value x) e f = let s : utf8 true ≡ u = cc in subst (λ z. Fits z (text_value x)) s refl
row_fits_state (binary n) u null_value e f = let s : binary true ≡ u = cc in subst (λ z. Fits z null_value) s refl
row_fits_state (binary n) u (bytes_value x) e f = let s : binary true ≡ u = cc in subst (λ z. Fits z (bytes_value x)) s refl
row_fits_state (extension tag t) u null_value e f = row_fits_state t u null_value e refl
row_fits_state (extension tag t) u (bool_value b) e f = row_fits_state t u (bool_value b) e f
row_fits_state (extension tag t) u (int_value i) e f = row_fits_state t u (int_value i) e f
row_fits_state (extension tag t) u (text_value x) e f = row_fits_state t u (text_value x) e f
row_fits_state (extension tag t) u (bytes_value x) e f = row_fits_state t u (bytes_value x) e f
row_fits_state (extension tag t) u (list_value vs) e f = row_fits_state t u (list_value vs) e f
row_fits_state (extension tag t) u (struct_value vs) e f = row_fits_state t u (struct_value vs) e f
row_fits_state (list t n) u v e f = absurd (no_state u e)
row_fits_state (struct fs n) u v e f = absurd (no_state u e)
row_fits_state t u v e f = absurd (true≢false (sym f))

null_fits : (t u : Ty) → bound_state t ≡ Some u → Fits u null_value
null_fits t u e = row_fits_state t u null_value e refl

pick : (b : Bool) (v w : ValueData) → ((if b then v else w) ≡ v) ⊎ ((if b then v else w) ≡ w)
pick true v w = inl refl
pick false v w = inr refl

greater_among : (v w : ValueData) → (greater v w ≡ v) ⊎ (greater v w ≡ w)
greater_among null_value w = inr refl
greater_among v null_value = inl refl
greater_among v w = ⊎_elim (λ a. inr a) (λ a. inl a) (pick (value_le v w) w v)

lesser_among : (v w : ValueData) → (lesser v w ≡ v) ⊎ (lesser v w ≡ w)
lesser_among null_value w = inr refl
lesser_among v null_value = inl refl
lesser_among v w = pick (value_le v w) v w

module _ (t u : Ty) (e : bound_state t ≡ Some u) where
  greatest_fits : (vs : List ValueData) → all_by (is_row_value t) vs ≡ true → Fits u (greatest vs)
  greatest_fits [] h = null_fits t u e
  greatest_fits (v ∷ vs) h = ⊎_elim
      (λ s. subst (Fits u) (sym s) (row_fits_state t u v e (and_parts (is_row_value t v) (all_by (is_row_value t) vs) h).0))
      (λ s. subst (Fits u) (sym s) (greatest_fits vs (and_parts (is_row_value t v) (all_by (is_row_value t) vs) h).1)) (greater_among v (greatest vs))

  least_fits : (vs : List ValueData) → all_by (is_row_value t) vs ≡ true → Fits u (least vs)
  least_fits [] h = null_fits t u e
  least_fits (v ∷ vs) h = ⊎_elim
      (λ s. subst (Fits u) (sym s) (row_fits_state t u v e (and_parts (is_row_value t v) (all_by (is_row_value t) vs) h).0))
      (λ s. subst (Fits u) (sym s) (least_fits vs (and_parts (is_row_value t v) (all_by (is_row_value t) vs) h).1)) (lesser_among v (least vs))

-- bounds of texts are texts, and bounds of bytes are bytes

bound_of_bytes : (t u : Ty) → byte_bound_state t ≡ Some u → bound_state t ≡ Some u
bound_of_bytes (utf8 n) u e = e
bound_of_bytes (binary n) u e = e
bound_of_bytes (extension tag t) u e = bound_of_bytes t u e
bound_of_bytes t u e = absurd (no_state u e)

bytes_or : (o : Option (List ℕ)) → Fits (binary true) (bytes_or_null o)
bytes_or None = refl
bytes_or (Some s) = refl

text_or : (o : Option (List ℕ)) → Fits (utf8 true) (text_or_null o)
text_or None = refl
text_or (Some s) = refl

chosen : (u : Ty) (b : Bool) (v w : ValueData) → Fits u v → Fits u w → Fits u (if b then v else w)
chosen u true v w f g = f
chosen u false v w f g = g

upper_text_fits : (n : ℕ) (v : ValueData) → Fits (utf8 true) v → Fits (utf8 true) (upper_bound n v)
upper_text_fits n (text_value s) f = chosen (utf8 true) (nat_le (length s) n) (text_value s) (text_or_null (raised_last char_rises next_char (front_chars n (chars s)))) refl (text_or (raised_last char_rises next_char (front_chars n (chars s))))
upper_text_fits n (bytes_value s) f = absurd (true≢false (sym f))
upper_text_fits n v f = f

lower_text_fits : (n : ℕ) (v : ValueData) → Fits (utf8 true) v → Fits (utf8 true) (lower_bound n v)
lower_text_fits n (text_value s) f = chosen (utf8 true) (nat_le (length s) n) (text_value s) (text_value (encode_utf8_all (front_chars n (chars s)))) refl refl
lower_text_fits n (bytes_value s) f = absurd (true≢false (sym f))
lower_text_fits n v f = f

upper_bytes_fits : (n : ℕ) (v : ValueData) → Fits (binary true) v → Fits (binary true) (upper_bound n v)
upper_bytes_fits n (bytes_value s) f = chosen (binary true) (nat_le (length s) n) (bytes_value s) (bytes_or_null (raised_last byte_rises suc (take n s))) refl (bytes_or (raised_last byte_rises suc (take n s)))
upper_bytes_fits n (text_value s) f = absurd (true≢false (sym f))
upper_bytes_fits n v f = f

lower_bytes_fits : (n : ℕ) (v : ValueData) → Fits (binary true) v → Fits (binary true) (lower_bound n v)
lower_bytes_fits n (bytes_value s) f = refl
lower_bytes_fits n (text_value s) f = absurd (true≢false (sym f))
lower_bytes_fits n v f = f

upper_fits : (n : ℕ) (t u : Ty) (v : ValueData) → byte_bound_state t ≡ Some u → Fits u v → Fits u (upper_bound n v)
upper_fits n (utf8 m) u v e f = let s : utf8 true ≡ u = cc in subst (λ z. Fits z (upper_bound n v)) s (upper_text_fits n v (subst (λ z. Fits z v) (sym s) f))
upper_fits n (binary m) u v e f = let s : binary true ≡ u = cc in subst (λ z. Fits z (upper_bound n v)) s (upper_bytes_fits n v (subst (λ z. Fits z v) (sym s) f))
upper_fits n (extension tag t) u v e f = upper_fits n t u v e f
upper_fits n t u v e f = absurd (no_state u e)

lower_fits : (n : ℕ) (t u : Ty) (v : ValueData) → byte_bound_state t ≡ Some u → Fits u v → Fits u (lower_bound n v)
lower_fits n (utf8 m) u v e f = let s : utf8 true ≡ u = cc in subst (λ z. Fits z (lower_bound n v)) s (lower_text_fits n v (subst (λ z. Fits z v) (sym s) f))
lower_fits n (binary m) u v e f = let s : binary true ≡ u = cc in subst (λ z. Fits z (lower_bound n v)) s (lower_bytes_fits n v (subst (λ z. Fits z v) (sym s) f))
lower_fits n (extension tag t) u v e f = lower_fits n t u v e f
lower_fits n t u v e f = absurd (no_state u e)

-- counts, sums and filters

nulls_few : (vs : List ValueData) → nulls vs ≤ length vs
nulls_few [] = omega arith
nulls_few (null_value ∷ vs) = let h : nulls vs ≤ length vs = nulls_few vs in omega arith
nulls_few (bool_value b ∷ vs) = let h : nulls vs ≤ length vs = nulls_few vs in omega arith
nulls_few (int_value b ∷ vs) = let h : nulls vs ≤ length vs = nulls_few vs in omega arith
nulls_few (text_value b ∷ vs) = let h : nulls vs ≤ length vs = nulls_few vs in omega arith
nulls_few (bytes_value b ∷ vs) = let h : nulls vs ≤ length vs = nulls_few vs in omega arith
nulls_few (list_value b ∷ vs) = let h : nulls vs ≤ length vs = nulls_few vs in omega arith
nulls_few (struct_value b ∷ vs) = let h : nulls vs ≤ length vs = nulls_few vs in omega arith

count_fits : (n : ℕ) → n < 2 ^ 64 → fits (primitive U64 true) (int_cell (pos n)) ≡ true
count_fits n h = grind (arith, nat_tests)

sum_fits_state : (p : Option PType) (u : Ty) (n : ℤ) → sum_state p ≡ Some u → Fits u (sum_value p n)
sum_fits_state None u n e = absurd (no_state u e)
sum_fits_state (Some p) u n e = let s : primitive p true ≡ u = cc in subst (λ z. Fits z (sum_value (Some p) n)) s (go (int_fits p n) refl)
  where
    go : (b : Bool) → int_fits p n ≡ b → Fits (primitive p true) (if b then int_value n else null_value)
    go true f = f
    go false f = refl

filter_fits : (t u : Ty) (s : List ℕ) → filter_state t ≡ Some u → Fits u (bytes_value s)
filter_fits (boolean n) u s e = let k : binary true ≡ u = cc in subst (λ z. Fits z (bytes_value s)) k refl
filter_fits (primitive p n) u s e = let k : binary true ≡ u = cc in subst (λ z. Fits z (bytes_value s)) k refl
filter_fits (utf8 n) u s e = let k : binary true ≡ u = cc in subst (λ z. Fits z (bytes_value s)) k refl
filter_fits (binary n) u s e = let k : binary true ≡ u = cc in subst (λ z. Fits z (bytes_value s)) k refl
filter_fits (extension tag t) u s e = filter_fits t u s e
filter_fits (list t n) u s e = absurd (no_state u e)
filter_fits (struct fs n) u s e = absurd (no_state u e)

module _ (hash : List ℕ → ℕ) (t : Ty) (vs : List ValueData) (h : all_by (is_row_value t) vs ≡ true) (short : length vs < 2 ^ 64) where
  value_fits_state : (a : Aggregate) (u : Ty) → state_type a t ≡ Some u → Fits u (aggregate_value hash t vs a)
  value_fits_state maximum u e = greatest_fits t u e vs h
  value_fits_state minimum u e = least_fits t u e vs h
  value_fits_state (bounded_maximum n) u e = upper_fits n t u (greatest vs) e (greatest_fits t u (bound_of_bytes t u e) vs h)
  value_fits_state (bounded_minimum n) u e = lower_fits n t u (least vs) e (least_fits t u (bound_of_bytes t u e) vs h)
  value_fits_state null_count u e =
      let s : primitive U64 true ≡ u = cc in
      let few : nulls vs ≤ length vs = nulls_few vs in
      let k : fits (primitive U64 true) (int_cell (pos (nulls vs))) ≡ true = count_fits (nulls vs) (omega arith) in
      subst (λ z. Fits z (int_value (pos (nulls vs)))) s k
  value_fits_state sum u e = sum_fits_state (sum_of_type t) u (exact_sum vs) e
  value_fits_state (bloom n) u e = filter_fits t u (filter_bytes (filter_of n (value_hashes hash t vs))) e

  values_fit_states : (gs : List Aggregate) → all_by (has_state t) gs ≡ true → record_fits (held_aggregates gs t) (values_of hash t vs gs) ≡ true
  values_fit_states [] k = refl
  values_fit_states (a ∷ gs) k = go (state_type a t) refl (and_parts (has_state t a) (all_by (has_state t) gs) k).0 (values_fit_states gs (and_parts (has_state t a) (all_by (has_state t) gs) k).1)
    where
      go : (o : Option Ty) → state_type a t ≡ o → is_some o ≡ true → record_fits (held_aggregates gs t) (values_of hash t vs gs) ≡ true
          → record_fits (with_state a o ++ held_aggregates gs t) (aggregate_value hash t vs a ∷ values_of hash t vs gs) ≡ true
      go None e k r = cc
      go (Some u) e k r = and_from (fits u (state_cell (aggregate_value hash t vs a))) (record_fits (held_aggregates gs t) (values_of hash t vs gs)) (value_fits_state a u e) r

  pub record_fits_states : (r : List ValueData) (gs : List Aggregate) → all_by (has_state t) gs ≡ true → r ≡ values_of hash t vs gs → record_fits (held_aggregates gs t) r ≡ true
  record_fits_states r gs k e = ap (record_fits (held_aggregates gs t)) e ∙ values_fit_states gs k
