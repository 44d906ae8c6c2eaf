-- The value of each aggregate is one of its type.
use Rattle.std.proofs.Common.{◌≡◌, ◌≢◌, ℕ, zero, suc, ◌+◌, ◌-◌, ◌*◌, ◌/◌, ◌%◌, ◌<◌, ◌≤◌, ◌^◌, ◌⊎◌, ◌&&◌, Bool, true, false, List, [], ◌∷◌, ◌++◌, map, length, take, Option, Some, None, refl, sym, ap, subst, inl, inr, ⊎_elim, arith, length-append, length-take}
use Rattle.std.specs.Prelude.{if◌then◌else◌, nat_le, min, pos, ℤ}
use Rattle.std.specs.Char.{encode_utf8, IsScalar}
use Rattle.std.specs.Str.{is_utf8, chars, encode_utf8_all, all_scalars}
use Rattle.std.proofs.lemmas.Bool.{true≢false, cases_lt, and_from, and_parts}
use Rattle.std.proofs.lemmas.Bool.Decides.{nat_tests}
use Rattle.std.proofs.lemmas.List.{append-nil, length-map}
use Rattle.std.proofs.lemmas.Str.{IsUtf8-from_is_utf8, is_utf8-from_IsUtf8, scalars-chars}
use Rattle.std.specs.Int.{bytes_low_first, byte_at}
use Rattle.std.specs.List.{flat_map, range_with_len}
use Rattle.std.proofs.lemmas.List.FromFn.{length-range_with_len}
use Rattle.vx_bloom_spec.specs.Blocks.{Block, no_lanes, or_lanes}
use Rattle.vx_bloom_spec.specs.Filter.{or_all, masks_in, filter_of}
use Rattle.vx_bloom_spec.specs.Bytes.{number_bytes, block_bytes, filter_bytes}
use Rattle.vx_bloom_spec.specs.Values.{value_hashes}
use Rattle.vx_zone_table_laws.specs.Statements.{Zone, SmallFilter}
use lib.Utf8.{scalar_cases, low_scalar}
use Rattle.vx_zone_spec.proofs.TextOrder.{one_byte, two_bytes, three_bytes, four_bytes, plain_next, eq_or}
use Rattle.vx_model.specs.declared.ptype.PType.{PType}
use Rattle.vx_model.specs.declared.ptype.PType.TheVariants.{U64}
use Rattle.vx_model.specs.Words.{all_by}
use Rattle.vx_model.specs.Numbers.{int_fits}
use Rattle.vx_model.specs.Ty.{Ty, boolean, primitive, utf8, binary, list, struct, extension}
use Rattle.vx_model.specs.CellData.{CellData, null_cell, bool_cell, int_cell, text_cell, bytes_cell, fits}
use Rattle.vx_model.specs.ValueData.{ValueData, value, null_value, bool_value, int_value, text_value, bytes_value, list_value, struct_value}
use Rattle.vx_layout_spec.specs.Real.{is_byte, is_length, is_real_cell}
use Rattle.vx_aggregate_spec.specs.Aggregate.{Aggregate, maximum, minimum, bounded_maximum, bounded_minimum, null_count, sum, bloom, bound_state, byte_bound_state, sum_state, sum_of_type, filter_state, state_type}
use Rattle.vx_zone_spec.specs.ValueOrder.{value_le, greater, lesser, greatest, least}
use Rattle.vx_zone_spec.specs.Bounds.{front_chars, byte_rises, char_rises, next_char, raised_before, raised_last, upper_bound, lower_bound, text_or_null, bytes_or_null}
use Rattle.vx_zone_spec.specs.Record.{nulls, exact_sum, sum_value, aggregate_value}
use Rattle.vx_zone_spec.specs.ZoneTable.{state_cell}

below_test : (n : ℕ) → n < 2 ^ 64 → is_length n ≡ true
below_test n h = grind (arith, nat_tests)

test_below : (n : ℕ) → is_length n ≡ true → n < 2 ^ 64
test_below n h = grind (arith, nat_tests)

-- A value that a column of the type can hold.
pub record Holds (u : Ty) (v : ValueData) : Type 0 where
  pub fit : fits u (state_cell v) ≡ true
  pub real : is_real_cell (state_cell v) ≡ true

abbrev pub AllHold : Ty → List ValueData → Type 0
AllHold u [] = Unit {0}
AllHold u (v ∷ vs) = Holds u v × AllHold u vs

-- ---- values of the column itself

no_state : {A : Type 0} (u : A) → None ≡ Some u → ⊥
no_state u e = absurd (Rattle.std.proofs.lemmas.Option.none-some u e)

held_value : (t u : Ty) (c : CellData) → bound_state t ≡ Some u → fits t c ≡ true → is_real_cell c ≡ true → Holds u (value c)
held_value (boolean n) u null_cell e f r = let s : boolean true ≡ u = cc in rw (← s) (record { fit = refl; real = refl })
held_value (boolean n) u (bool_cell b) e f r = let s : boolean true ≡ u = cc in rw (← s) (record { fit = refl; real = refl })
held_value (primitive p n) u null_cell e f r = let s : primitive p true ≡ u = cc in rw (← s) (record { fit = refl; real = refl })
held_value (primitive p n) u (int_cell i) e f r = let s : primitive p true ≡ u = cc in rw (← s) (record { fit = f; real = refl })
held_value (utf8 n) u null_cell e f r = let s : utf8 true ≡ u = cc in rw (← s) (record { fit = refl; real = refl })
held_value (utf8 n) u (text_cell x) e f r = let s : utf8 true ≡ u = cc in rw (← s) (record { fit = refl; real = r })
held_value (binary n) u null_cell e f r = let s : binary true ≡ u = cc in rw (← s) (record { fit = refl; real = refl })
held_value (binary n) u (bytes_cell x) e f r = let s : binary true ≡ u = cc in rw (← s) (record { fit = refl; real = r })
held_value (extension tag t) u c e f r = held_value t u c e f r
held_value (list t n) u c e f r = absurd (no_state u e)
held_value (struct fs n) u c e f r = absurd (no_state u e)
held_value t u c e f r = absurd (true≢false (sym f))

pub held_values : (t u : Ty) (cs : List CellData) → bound_state t ≡ Some u → all_by (fits t) cs ≡ true → all_by is_real_cell cs ≡ true → AllHold u (map value cs)
held_values t u [] e f r = tt
held_values t u (c ∷ cs) e f r = (held_value t u c e (and_parts (fits t c) _ f).0 (and_parts (is_real_cell c) _ r).0, held_values t u cs e (and_parts (fits t c) _ f).1 (and_parts (is_real_cell c) _ r).1)

null_held : (t u : Ty) → bound_state t ≡ Some u → Holds u null_value
null_held (boolean n) u e = let s : boolean true ≡ u = cc in rw (← s) (record { fit = refl; real = refl })
null_held (primitive p n) u e = let s : primitive p true ≡ u = cc in rw (← s) (record { fit = refl; real = refl })
null_held (utf8 n) u e = let s : utf8 true ≡ u = cc in rw (← s) (record { fit = refl; real = refl })
null_held (binary n) u e = let s : binary true ≡ u = cc in rw (← s) (record { fit = refl; real = refl })
null_held (extension tag t) u e = null_held t u e
null_held (list t n) u e = absurd (no_state u e)
null_held (struct fs n) u e = absurd (no_state u e)

-- ---- the greatest and the least are among the values

pick : (b : Bool) (v w : ValueData) → ((if b then v else w) ≡ v) ⊎ ((if b then v else w) ≡ w)
pick true v w = inl refl
pick false v w = inr refl

pub greater_among : (v w : ValueData) → (greater v w ≡ v) ⊎ (greater v w ≡ w)
greater_among null_value w = inr refl
greater_among v null_value = inl refl
greater_among v w = ⊎_elim (λ a. inr a) (λ a. inl a) (pick (value_le v w) w v)

pub lesser_among : (v w : ValueData) → (lesser v w ≡ v) ⊎ (lesser v w ≡ w)
lesser_among null_value w = inr refl
lesser_among v null_value = inl refl
lesser_among v w = pick (value_le v w) v w

greatest_held : (u : Ty) (vs : List ValueData) → Holds u null_value → AllHold u vs → Holds u (greatest vs)
greatest_held u [] n h = n
greatest_held u (v ∷ vs) n h = ⊎_elim (λ e. subst (Holds u) (sym e) h.0) (λ e. subst (Holds u) (sym e) (greatest_held u vs n h.1)) (greater_among v (greatest vs))

least_held : (u : Ty) (vs : List ValueData) → Holds u null_value → AllHold u vs → Holds u (least vs)
least_held u [] n h = n
least_held u (v ∷ vs) n h = ⊎_elim (λ e. subst (Holds u) (sym e) h.0) (λ e. subst (Holds u) (sym e) (least_held u vs n h.1)) (lesser_among v (least vs))

-- ---- raised bytes

raised_are : (p r : List ℕ) → all_by is_byte p ≡ true → raised_last byte_rises suc p ≡ Some r → (all_by is_byte r ≡ true) × (length r ≤ length p)
raised_are [] r h e = cc
raised_are (x ∷ p) r h e = go (raised_last byte_rises suc p) (λ ys f. raised_are p ys (and_parts (is_byte x) _ h).1 f) e
  where
    byte_suc : (x : ℕ) → byte_rises x ≡ true → is_byte (suc x) ≡ true
    byte_suc x b = grind (arith, nat_tests)

    here : (b : Bool) → byte_rises x ≡ b → (if b then Some (suc x ∷ []) else None) ≡ Some r → (all_by is_byte r ≡ true) × (length r ≤ suc (length p))
    here false f g = cc
    here true f g = let s : suc x ∷ [] ≡ r = cc in subst (λ z. (all_by is_byte z ≡ true) × (length z ≤ suc (length p))) s (and_from (is_byte (suc x)) true (byte_suc x f) refl, omega arith)

    go : (o : Option (List ℕ)) → ((ys : List ℕ) → o ≡ Some ys → (all_by is_byte ys ≡ true) × (length ys ≤ length p)) → raised_before byte_rises suc x o ≡ Some r → (all_by is_byte r ≡ true) × (length r ≤ suc (length p))
    go None f g = here (byte_rises x) refl g
    go (Some ys) f g = let s : x ∷ ys ≡ r = cc in
        let w : (all_by is_byte ys ≡ true) × (length ys ≤ length p) = f ys refl in
        let l : length ys ≤ length p = w.1 in
        subst (λ z. (all_by is_byte z ≡ true) × (length z ≤ suc (length p))) s (and_from (is_byte x) (all_by is_byte ys) (and_parts (is_byte x) _ h).0 w.0, omega arith)

all_take : (n : ℕ) (xs : List ℕ) → all_by is_byte xs ≡ true → all_by is_byte (take n xs) ≡ true
all_take zero xs g = refl
all_take (suc n) [] g = refl
all_take (suc n) (x ∷ xs) g = and_from (is_byte x) (all_by is_byte (take n xs)) (and_parts (is_byte x) _ g).0 (all_take n xs (and_parts (is_byte x) _ g).1)

take_shorter : (n : ℕ) (xs : List ℕ) → length (take n xs) ≤ length xs
take_shorter n xs = let l : length (take n xs) ≡ min n (length xs) = length-take n xs in omega arith

upper_bytes : (n : ℕ) (x : List ℕ) → is_real_cell (bytes_cell x) ≡ true → Holds (binary true) (upper_bound n (bytes_value x))
upper_bytes n x r = go (nat_le (length x) n) (raised_last byte_rises suc (take n x)) refl
  where
    go : (b : Bool) (o : Option (List ℕ)) → raised_last byte_rises suc (take n x) ≡ o → Holds (binary true) (if b then bytes_value x else bytes_or_null o)
    go true o e = record { fit = refl; real = r }
    go false None e = record { fit = refl; real = refl }
    go false (Some y) e =
        let w : (all_by is_byte y ≡ true) × (length y ≤ length (take n x)) = raised_are (take n x) y (all_take n x (and_parts (all_by is_byte x) _ r).0) e in
        let l : length y ≤ length (take n x) = w.1 in
        let k : length (take n x) ≤ length x = take_shorter n x in
        let m : length x < 2 ^ 64 = test_below (length x) (and_parts (all_by is_byte x) _ r).1 in
        record { fit = refl; real = and_from (all_by is_byte y) (is_length (length y)) w.0 (below_test (length y) (omega arith)) }

lower_bytes : (n : ℕ) (x : List ℕ) → is_real_cell (bytes_cell x) ≡ true → Holds (binary true) (lower_bound n (bytes_value x))
lower_bytes n x r =
    let k : length (take n x) ≤ length x = take_shorter n x in
    let m : length x < 2 ^ 64 = test_below (length x) (and_parts (all_by is_byte x) _ r).1 in
    record { fit = refl; real = and_from (all_by is_byte (take n x)) (is_length (length (take n x))) (all_take n x (and_parts (all_by is_byte x) _ r).0) (below_test (length (take n x)) (omega arith)) }

-- ---- raised characters

scalar_from : (c : ℕ) → (c < 55296) ⊎ ((57344 ≤ c) × (c < 1114112)) → IsScalar c
scalar_from c (inl h) = low_scalar c h
scalar_from c (inr h) = high c h.0 h.1
  where
    high : (c : ℕ) → 57344 ≤ c → c < 1114112 → IsScalar c
    high c a b = grind (arith, nat_tests)

scalar_next : (c : ℕ) → IsScalar c → char_rises c ≡ true → IsScalar (next_char c)
scalar_next c s h = go (eq_or c)
  where
    not_top : c ≡ 1114111 → ⊥
    not_top e = true≢false (sym (subst (λ z. char_rises z ≡ true) e h))

    above : (c ≡ 55295 → ⊥) → (c < 55296) ⊎ ((57344 ≤ c) × (c < 1114112)) → (suc c < 55296) ⊎ ((57344 ≤ suc c) × (suc c < 1114112))
    above n (inl l) = elim (cases_lt c 55295) [
      | inl a ↦ inl (omega arith)
      | inr a ↦ absurd (n (omega arith))
    ]
    above n (inr l) =
        let low : 57344 ≤ c = l.0 in let high : c < 1114112 = l.1 in
        elim (cases_lt c 1114111) [
          | inl a ↦ inr (omega arith, omega arith)
          | inr a ↦ absurd (not_top (omega arith))
        ]

    go : (c ≡ 55295) ⊎ (c ≢ 55295) → IsScalar (next_char c)
    go (inl e) = subst (λ z. IsScalar (next_char z)) (sym e) refl
    go (inr n) = subst IsScalar (sym (plain_next c n)) (scalar_from (suc c) (above n (scalar_cases c s)))

-- a raised character has at most one byte more
next_longer : (c : ℕ) → length (encode_utf8 (next_char c)) ≤ length (encode_utf8 c) + 1
next_longer c = go (eq_or c)
  where
    at : (c d : ℕ) (p q : List ℕ) → encode_utf8 c ≡ p → encode_utf8 d ≡ q → length q ≤ length p + 1 → length (encode_utf8 d) ≤ length (encode_utf8 c) + 1
    at c d p q e f l = subst (λ z. length (encode_utf8 d) ≤ length z + 1) (sym e) (subst (λ z. length z ≤ length p + 1) (sym f) l)

    plain : length (encode_utf8 (suc c)) ≤ length (encode_utf8 c) + 1
    plain = elim (cases_lt (suc c) 128) [
      | inl a ↦ at c (suc c) (c ∷ []) (suc c ∷ []) (one_byte c (omega arith)) (one_byte (suc c) a) (omega arith)
      | inr a ↦ elim (cases_lt c 128) [
        | inl b ↦ at c (suc c) (c ∷ []) _ (one_byte c b) (two_bytes (suc c) a (omega arith)) (omega arith)
        | inr b ↦ elim (cases_lt (suc c) 2048) [
          | inl d ↦ at c (suc c) _ _ (two_bytes c b (omega arith)) (two_bytes (suc c) a d) (omega arith)
          | inr d ↦ elim (cases_lt c 2048) [
            | inl f ↦ at c (suc c) _ _ (two_bytes c b f) (three_bytes (suc c) d (omega arith)) (omega arith)
            | inr f ↦ elim (cases_lt (suc c) 65536) [
              | inl g ↦ at c (suc c) _ _ (three_bytes c f (omega arith)) (three_bytes (suc c) d g) (omega arith)
              | inr g ↦ elim (cases_lt c 65536) [
                | inl h ↦ at c (suc c) _ _ (three_bytes c f h) (four_bytes (suc c) g) (omega arith)
                | inr h ↦ at c (suc c) _ _ (four_bytes c h) (four_bytes (suc c) g) (omega arith)
              ]
            ]
          ]
        ]
      ]
    ]

    go : (c ≡ 55295) ⊎ (c ≢ 55295) → length (encode_utf8 (next_char c)) ≤ length (encode_utf8 c) + 1
    go (inl e) = subst (λ z. length (encode_utf8 (next_char z)) ≤ length (encode_utf8 z) + 1) (sym e)
        (at 55295 57344 _ _ (three_bytes 55295 (omega arith) (omega arith)) (three_bytes 57344 (omega arith) (omega arith)) (omega arith))
    go (inr n) = subst (λ z. length (encode_utf8 z) ≤ length (encode_utf8 c) + 1) (sym (plain_next c n)) plain

-- characters, and their bytes at most so many
record Chars (n : ℕ) (cs : List ℕ) : Type 0 where
  scalar : all_scalars cs ≡ true
  few : length (encode_utf8_all cs) ≤ n

chars_raised : (n : ℕ) (p r : List ℕ) → Chars n p → raised_last char_rises next_char p ≡ Some r → Chars (n + 1) r
chars_raised n [] r h e = absurd (Rattle.std.proofs.lemmas.Option.none-some r e)
chars_raised n (x ∷ p) r h e = go (raised_last char_rises next_char p) (λ k ys c f. chars_raised k p ys c f) e
  where
    sx : IsScalar x
    sx = (and_parts _ (all_scalars p) h.scalar).0

    whole : length (encode_utf8 x ++ encode_utf8_all p) ≡ length (encode_utf8 x) + length (encode_utf8_all p)
    whole = length-append (encode_utf8 x) (encode_utf8_all p)

    total : length (encode_utf8 x ++ encode_utf8_all p) ≤ n
    total = h.few

    here : (b : Bool) → char_rises x ≡ b → (if b then Some (next_char x ∷ []) else None) ≡ Some r → Chars (n + 1) r
    here false f g = absurd (Rattle.std.proofs.lemmas.Option.none-some r g)
    here true f g = subst (Chars (n + 1)) (Rattle.std.proofs.lemmas.Option.same_Some (next_char x ∷ []) r g) (record {
      scalar = and_from _ true (scalar_next x sx f) refl;
      few = (let a : length (encode_utf8 x ++ encode_utf8_all p) ≡ length (encode_utf8 x) + length (encode_utf8_all p) = whole in let b : length (encode_utf8 x ++ encode_utf8_all p) ≤ n = total in
          let l : length (encode_utf8 (next_char x)) ≤ length (encode_utf8 x) + 1 = next_longer x in
          let k : length (encode_utf8 (next_char x) ++ []) ≡ length (encode_utf8 (next_char x)) = ap length (append-nil (encode_utf8 (next_char x))) in omega arith);
    })

    go : (o : Option (List ℕ)) → ((k : ℕ) (ys : List ℕ) → Chars k p → o ≡ Some ys → Chars (k + 1) ys) → raised_before char_rises next_char x o ≡ Some r → Chars (n + 1) r
    go None f g = here (char_rises x) refl g
    go (Some ys) f g =
        let a : length (encode_utf8 x ++ encode_utf8_all p) ≡ length (encode_utf8 x) + length (encode_utf8_all p) = whole in let b : length (encode_utf8 x ++ encode_utf8_all p) ≤ n = total in
        let c : Chars (n - length (encode_utf8 x) + 1) ys = f (n - length (encode_utf8 x)) ys (record { scalar = (and_parts _ (all_scalars p) h.scalar).1; few = omega arith }) refl in
        let few : length (encode_utf8_all ys) ≤ n - length (encode_utf8 x) + 1 = c.few in
        let k : length (encode_utf8 x ++ encode_utf8_all ys) ≡ length (encode_utf8 x) + length (encode_utf8_all ys) = length-append (encode_utf8 x) (encode_utf8_all ys) in
        subst (Chars (n + 1)) (Rattle.std.proofs.lemmas.Option.same_Some (x ∷ ys) r g) (record { scalar = and_from _ (all_scalars ys) sx c.scalar; few = omega arith })

front_are : (n : ℕ) (cs : List ℕ) → all_scalars cs ≡ true → Chars n (front_chars n cs)
front_are n [] h = record { scalar = refl; few = omega arith }
front_are n (c ∷ cs) h = go (nat_le (length (encode_utf8 c)) n) refl (front_are (n - length (encode_utf8 c)) cs (and_parts _ (all_scalars cs) h).1)
  where
    le_of : (a b : ℕ) → nat_le a b ≡ true → a ≤ b
    le_of a b h = grind (arith, nat_tests)

    go : (b : Bool) → nat_le (length (encode_utf8 c)) n ≡ b → Chars (n - length (encode_utf8 c)) (front_chars (n - length (encode_utf8 c)) cs) → Chars n (if b then c ∷ front_chars (n - length (encode_utf8 c)) cs else [])
    go true e r =
        let l : length (encode_utf8 c) ≤ n = le_of (length (encode_utf8 c)) n e in
        let few : length (encode_utf8_all (front_chars (n - length (encode_utf8 c)) cs)) ≤ n - length (encode_utf8 c) = r.few in
        let k : length (encode_utf8 c ++ encode_utf8_all (front_chars (n - length (encode_utf8 c)) cs)) ≡ length (encode_utf8 c) + length (encode_utf8_all (front_chars (n - length (encode_utf8 c)) cs)) =
        length-append (encode_utf8 c) (encode_utf8_all (front_chars (n - length (encode_utf8 c)) cs)) in
        record { scalar = and_from _ (all_scalars (front_chars (n - length (encode_utf8 c)) cs)) (and_parts _ (all_scalars cs) h).0 r.scalar; few = omega arith }
    go false e r = record { scalar = refl; few = omega arith }

text_held : (n : ℕ) (cs : List ℕ) → Chars n cs → n < 2 ^ 64 → Holds (utf8 true) (text_value (encode_utf8_all cs))
text_held n cs c small =
    let few : length (encode_utf8_all cs) ≤ n = c.few in
    record { fit = refl; real = and_from (is_utf8 (encode_utf8_all cs)) (is_length (length (encode_utf8_all cs))) (is_utf8-from_IsUtf8 (encode_utf8_all cs) (cs, (c.scalar, refl))) (below_test (length (encode_utf8_all cs)) (omega arith)) }

module _ (n : ℕ) (x : List ℕ) (r : is_real_cell (text_cell x) ≡ true) where
  are_scalars : all_scalars (chars x) ≡ true
  are_scalars = scalars-chars x (IsUtf8-from_is_utf8 x (and_parts (is_utf8 x) _ r).0)

  short : length x < 2 ^ 64
  short = test_below (length x) (and_parts (is_utf8 x) _ r).1

  upper_text : Holds (utf8 true) (upper_bound n (text_value x))
  upper_text = go (nat_le (length x) n) refl (raised_last char_rises next_char (front_chars n (chars x))) refl
    where
      more : (a b : ℕ) → nat_le a b ≡ false → b < a
      more a b h = grind (arith, nat_tests)

      go : (b : Bool) → nat_le (length x) n ≡ b → (o : Option (List ℕ)) → raised_last char_rises next_char (front_chars n (chars x)) ≡ o → Holds (utf8 true) (if b then text_value x else text_or_null o)
      go true e o f = record { fit = refl; real = r }
      go false e None f = record { fit = refl; real = refl }
      go false e (Some y) f = text_held (n + 1) y (chars_raised n (front_chars n (chars x)) y (front_are n (chars x) are_scalars) f)
          (let l : n < length x = more (length x) n e in let k : length x < 2 ^ 64 = short in omega arith)

  lower_text : Holds (utf8 true) (lower_bound n (text_value x))
  lower_text = go (nat_le (length x) n) refl
    where
      more : (a b : ℕ) → nat_le a b ≡ false → b < a
      more a b h = grind (arith, nat_tests)

      go : (b : Bool) → nat_le (length x) n ≡ b → Holds (utf8 true) (if b then text_value x else text_value (encode_utf8_all (front_chars n (chars x))))
      go true e = record { fit = refl; real = r }
      go false e = text_held n (front_chars n (chars x)) (front_are n (chars x) are_scalars) (let l : n < length x = more (length x) n e in let k : length x < 2 ^ 64 = short in omega arith)

-- ---- bounds of what a column holds

upper_held : (n : ℕ) (t u : Ty) (g : ValueData) → byte_bound_state t ≡ Some u → Holds u g → Holds u (upper_bound n g)
upper_held n (utf8 m) u g e h = let s : utf8 true ≡ u = cc in subst (λ z. Holds z (upper_bound n g)) s (go g (subst (λ z. Holds z g) (sym s) h))
  where
    go : (g : ValueData) → Holds (utf8 true) g → Holds (utf8 true) (upper_bound n g)
    go (text_value x) h = upper_text n x h.real
    go (bytes_value x) h = absurd (true≢false (sym h.fit))
    go null_value h = h
    go (bool_value b) h = h
    go (int_value b) h = h
    go (list_value b) h = h
    go (struct_value b) h = h
upper_held n (binary m) u g e h = let s : binary true ≡ u = cc in subst (λ z. Holds z (upper_bound n g)) s (go g (subst (λ z. Holds z g) (sym s) h))
  where
    go : (g : ValueData) → Holds (binary true) g → Holds (binary true) (upper_bound n g)
    go (bytes_value x) h = upper_bytes n x h.real
    go (text_value x) h = absurd (true≢false (sym h.fit))
    go null_value h = h
    go (bool_value b) h = h
    go (int_value b) h = h
    go (list_value b) h = h
    go (struct_value b) h = h
upper_held n (extension tag t) u g e h = upper_held n t u g e h
upper_held n t u g e h = absurd (no_state u e)

lower_held : (n : ℕ) (t u : Ty) (g : ValueData) → byte_bound_state t ≡ Some u → Holds u g → Holds u (lower_bound n g)
lower_held n (utf8 m) u g e h = let s : utf8 true ≡ u = cc in subst (λ z. Holds z (lower_bound n g)) s (go g (subst (λ z. Holds z g) (sym s) h))
  where
    go : (g : ValueData) → Holds (utf8 true) g → Holds (utf8 true) (lower_bound n g)
    go (text_value x) h = lower_text n x h.real
    go (bytes_value x) h = absurd (true≢false (sym h.fit))
    go null_value h = h
    go (bool_value b) h = h
    go (int_value b) h = h
    go (list_value b) h = h
    go (struct_value b) h = h
lower_held n (binary m) u g e h = let s : binary true ≡ u = cc in subst (λ z. Holds z (lower_bound n g)) s (go g (subst (λ z. Holds z g) (sym s) h))
  where
    go : (g : ValueData) → Holds (binary true) g → Holds (binary true) (lower_bound n g)
    go (bytes_value x) h = lower_bytes n x h.real
    go (text_value x) h = absurd (true≢false (sym h.fit))
    go null_value h = h
    go (bool_value b) h = h
    go (int_value b) h = h
    go (list_value b) h = h
    go (struct_value b) h = h
lower_held n (extension tag t) u g e h = lower_held n t u g e h
lower_held n t u g e h = absurd (no_state u e)

-- a type with bounds of bytes has bounds
bound_of_bytes : (t u : Ty) → byte_bound_state t ≡ Some u → bound_state t ≡ Some u
bound_of_bytes (utf8 n) u e = e
bound_of_bytes (binary n) u e = e
bound_of_bytes (extension tag t) u e = bound_of_bytes t u e
bound_of_bytes t u e = absurd (no_state u e)

-- ---- counts and sums

nulls_few : (vs : List ValueData) → nulls vs ≤ length vs
nulls_few [] = omega arith
nulls_few (null_value ∷ vs) = let h : nulls vs ≤ length vs = nulls_few vs in omega arith
nulls_few (bool_value b ∷ vs) = let h : nulls vs ≤ length vs = nulls_few vs in omega arith
nulls_few (int_value b ∷ vs) = let h : nulls vs ≤ length vs = nulls_few vs in omega arith
nulls_few (text_value b ∷ vs) = let h : nulls vs ≤ length vs = nulls_few vs in omega arith
nulls_few (bytes_value b ∷ vs) = let h : nulls vs ≤ length vs = nulls_few vs in omega arith
nulls_few (list_value b ∷ vs) = let h : nulls vs ≤ length vs = nulls_few vs in omega arith
nulls_few (struct_value b ∷ vs) = let h : nulls vs ≤ length vs = nulls_few vs in omega arith

count_held : (n : ℕ) → n < 2 ^ 64 → Holds (primitive U64 true) (int_value (pos n))
count_held n h = record { fit = fits_u64 n h; real = refl }
  where
    fits_u64 : (n : ℕ) → n < 2 ^ 64 → fits (primitive U64 true) (int_cell (pos n)) ≡ true
    fits_u64 n h = grind (arith, nat_tests)

sum_held : (p : Option PType) (u : Ty) (n : ℤ) → sum_state p ≡ Some u → Holds u (sum_value p n)
sum_held None u n e = absurd (no_state u e)
sum_held (Some p) u n e = let s : primitive p true ≡ u = cc in subst (λ z. Holds z (sum_value (Some p) n)) s (go (int_fits p n) refl)
  where
    go : (b : Bool) → int_fits p n ≡ b → Holds (primitive p true) (if b then int_value n else null_value)
    go true f = record { fit = f; real = refl }
    go false f = record { fit = refl; real = refl }

-- ---- filters

append_all : (xs ys : List ℕ) → all_by is_byte xs ≡ true → all_by is_byte ys ≡ true → all_by is_byte (xs ++ ys) ≡ true
append_all [] ys g h = h
append_all (x ∷ xs) ys g h = and_from (is_byte x) (all_by is_byte (xs ++ ys)) (and_parts (is_byte x) _ g).0 (append_all xs ys (and_parts (is_byte x) _ g).1 h)

low_bytes : (i k n : ℕ) → all_by is_byte (bytes_low_first i k n) ≡ true
low_bytes i zero n = refl
low_bytes i (suc k) n = and_from (is_byte (byte_at i n)) (all_by is_byte (bytes_low_first (suc i) k n)) (low (byte_at i n) (byte_low i n)) (low_bytes (suc i) k n)
  where
    low : (b : ℕ) → b < 256 → is_byte b ≡ true
    low b h = grind (arith, nat_tests)

    mod_low : (m : ℕ) → m % 256 < 256
    mod_low m = omega arith

    byte_low : (i n : ℕ) → byte_at i n < 256
    byte_low zero n = omega arith
    byte_low (suc i) n = mod_low (n / 256 ^ suc i)

number_is : (n : ℕ) → (all_by is_byte (number_bytes n) ≡ true) × (length (number_bytes n) ≡ 4)
unfolding number_bytes
number_is n = (low_bytes 0 4 n, refl)

numbers_are : (xs : List ℕ) → (all_by is_byte (flat_map number_bytes xs) ≡ true) × (length (flat_map number_bytes xs) ≡ 4 * length xs)
numbers_are [] = (refl, refl)
numbers_are (x ∷ xs) =
    let a : (all_by is_byte (number_bytes x) ≡ true) × (length (number_bytes x) ≡ 4) = number_is x in
    let b : (all_by is_byte (flat_map number_bytes xs) ≡ true) × (length (flat_map number_bytes xs) ≡ 4 * length xs) = numbers_are xs in
    let l : length (number_bytes x ++ flat_map number_bytes xs) ≡ length (number_bytes x) + length (flat_map number_bytes xs) = length-append (number_bytes x) (flat_map number_bytes xs) in
    let la : length (number_bytes x) ≡ 4 = a.1 in
    let lb : length (flat_map number_bytes xs) ≡ 4 * length xs = b.1 in
    (append_all (number_bytes x) (flat_map number_bytes xs) a.0 b.0, omega arith)

eight_lanes : (bs : List Block) → length (or_all bs) ≡ 8
unfolding or_all no_lanes or_lanes
eight_lanes [] = refl
eight_lanes (b ∷ bs) = refl

blocks_are : (f : ℕ → List Block) (places : List ℕ)
    → (all_by is_byte (flat_map block_bytes (map (λ p. or_all (f p)) places)) ≡ true) × (length (flat_map block_bytes (map (λ p. or_all (f p)) places)) ≡ 32 * length places)
unfolding block_bytes
blocks_are f [] = (refl, refl)
blocks_are f (p ∷ ps) =
    let a : (all_by is_byte (flat_map number_bytes (or_all (f p))) ≡ true) × (length (flat_map number_bytes (or_all (f p))) ≡ 4 * length (or_all (f p))) = numbers_are (or_all (f p)) in
    let b : (all_by is_byte (flat_map block_bytes (map (λ p. or_all (f p)) ps)) ≡ true) × (length (flat_map block_bytes (map (λ p. or_all (f p)) ps)) ≡ 32 * length ps) = blocks_are f ps in
    let l : length (flat_map number_bytes (or_all (f p)) ++ flat_map block_bytes (map (λ p. or_all (f p)) ps)) ≡ length (flat_map number_bytes (or_all (f p))) + length (flat_map block_bytes (map (λ p. or_all (f p)) ps)) =
    length-append (flat_map number_bytes (or_all (f p))) (flat_map block_bytes (map (λ p. or_all (f p)) ps)) in
    let e : length (or_all (f p)) ≡ 8 = eight_lanes (f p) in
    let la : length (flat_map number_bytes (or_all (f p))) ≡ 4 * length (or_all (f p)) = a.1 in
    let lb : length (flat_map block_bytes (map (λ p. or_all (f p)) ps)) ≡ 32 * length ps = b.1 in
    (append_all (flat_map number_bytes (or_all (f p))) (flat_map block_bytes (map (λ p. or_all (f p)) ps)) a.0 b.0, omega arith)

filter_is : (blocks : ℕ) (hashes : List ℕ) → blocks < 2 ^ 32 → Holds (binary true) (bytes_value (filter_bytes (filter_of blocks hashes)))
unfolding filter_bytes filter_of
filter_is blocks hashes small =
    let a : (all_by is_byte (flat_map block_bytes (map (λ p. or_all (masks_in blocks hashes p)) (range_with_len 0 blocks))) ≡ true)
    × (length (flat_map block_bytes (map (λ p. or_all (masks_in blocks hashes p)) (range_with_len 0 blocks))) ≡ 32 * length (range_with_len 0 blocks)) = blocks_are (masks_in blocks hashes) (range_with_len 0 blocks) in
    let l : length (range_with_len 0 blocks) ≡ blocks = length-range_with_len 0 blocks in
    let m : length (flat_map block_bytes (map (λ p. or_all (masks_in blocks hashes p)) (range_with_len 0 blocks))) ≡ 32 * length (range_with_len 0 blocks) = a.1 in
    record {
      fit = refl;
      real = and_from (all_by is_byte (filter_bytes (filter_of blocks hashes))) (is_length (length (filter_bytes (filter_of blocks hashes)))) a.0
          (below_test (length (filter_bytes (filter_of blocks hashes))) (omega arith));
    }

filter_held : (t u : Ty) (blocks : ℕ) (hashes : List ℕ) → filter_state t ≡ Some u → blocks < 2 ^ 32 → Holds u (bytes_value (filter_bytes (filter_of blocks hashes)))
filter_held (boolean n) u blocks hashes e small = let s : binary true ≡ u = cc in subst (λ z. Holds z (bytes_value (filter_bytes (filter_of blocks hashes)))) s (filter_is blocks hashes small)
filter_held (primitive p n) u blocks hashes e small = let s : binary true ≡ u = cc in subst (λ z. Holds z (bytes_value (filter_bytes (filter_of blocks hashes)))) s (filter_is blocks hashes small)
filter_held (utf8 n) u blocks hashes e small = let s : binary true ≡ u = cc in subst (λ z. Holds z (bytes_value (filter_bytes (filter_of blocks hashes)))) s (filter_is blocks hashes small)
filter_held (binary n) u blocks hashes e small = let s : binary true ≡ u = cc in subst (λ z. Holds z (bytes_value (filter_bytes (filter_of blocks hashes)))) s (filter_is blocks hashes small)
filter_held (extension tag t) u blocks hashes e small = filter_held t u blocks hashes e small
filter_held (list t n) u blocks hashes e small = absurd (no_state u e)
filter_held (struct fs n) u blocks hashes e small = absurd (no_state u e)

-- ---- each aggregate

module _ (hash : List ℕ → ℕ) (t : Ty) (cs : List CellData) (z : Zone t cs) where
  greatest_of : (u : Ty) → bound_state t ≡ Some u → Holds u (greatest (map value cs))
  greatest_of u e = greatest_held u (map value cs) (null_held t u e) (held_values t u cs e z.fit z.real)

  least_of : (u : Ty) → bound_state t ≡ Some u → Holds u (least (map value cs))
  least_of u e = least_held u (map value cs) (null_held t u e) (held_values t u cs e z.fit z.real)

  pub aggregate_held : (a : Aggregate) (u : Ty) → SmallFilter a → state_type a t ≡ Some u → Holds u (aggregate_value hash t (map value cs) a)
  aggregate_held maximum u small e = greatest_of u e
  aggregate_held minimum u small e = least_of u e
  aggregate_held (bounded_maximum n) u small e = upper_held n t u (greatest (map value cs)) e (greatest_of u (bound_of_bytes t u e))
  aggregate_held (bounded_minimum n) u small e = lower_held n t u (least (map value cs)) e (least_of u (bound_of_bytes t u e))
  aggregate_held null_count u small e =
      let s : primitive U64 true ≡ u = cc in
      let l : length (map value cs) ≡ length cs = length-map cs value in
      let k : nulls (map value cs) ≤ length (map value cs) = nulls_few (map value cs) in
      let m : length cs < 2 ^ 64 = z.short in
      subst (λ w. Holds w (int_value (pos (nulls (map value cs))))) s (count_held (nulls (map value cs)) (omega arith))
  aggregate_held sum u small e = sum_held (sum_of_type t) u (exact_sum (map value cs)) e
  aggregate_held (bloom n) u small e = filter_held t u n (value_hashes hash t (map value cs)) e small
