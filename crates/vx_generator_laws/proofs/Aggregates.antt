-- What is recorded of integers, and of texts of at most 64 bytes, is small.
use Rattle.std.proofs.Common.{◌≡◌, ℕ, zero, suc, ◌≤◌, ◌&&◌, Bool, true, false, List, [], ◌∷◌, ◌++◌, map, length, take, refl, sym, ap, ◌∙◌, subst, inl, inr, arith}
use Rattle.std.specs.Prelude.{if◌then◌else◌, nat_le}
use Rattle.std.proofs.lemmas.Bool.{and_parts}
use Rattle.std.proofs.lemmas.Bool.Decides.{nat_tests}
use Rattle.vx_model.specs.declared.ptype.PType.{PType}
use Rattle.vx_model.specs.declared.ptype.PType.TheVariants.{U64}
use Rattle.vx_model.specs.Words.{all_by}
use Rattle.vx_model.specs.Numbers.{ptype_bytes}
use Rattle.vx_model.specs.Ty.{Ty, primitive, utf8}
use Rattle.vx_model.specs.CellData.{CellData, null_cell, bool_cell, int_cell, text_cell, bytes_cell, list_cell, struct_cell, cell_size}
use Rattle.vx_model.specs.ValueData.{ValueData, null_value, bool_value, int_value, text_value, bytes_value, list_value, struct_value, value}
use Rattle.vx_model.specs.ChunkData.{cells, row_values}
use Rattle.vx_path.specs.Lists.{In}
use Rattle.vx_rules.specs.Stream.{stream_cells}
use Rattle.vx_zone_spec.specs.ValueOrder.{value_le, greater, lesser, greatest, least}
use Rattle.vx_zone_spec.specs.Bounds.{upper_bound, lower_bound}
use Rattle.vx_zone_spec.specs.ZoneTable.{state_cell}
use Rattle.vx_aggregate_spec.specs.Aggregate.{Aggregate, maximum, minimum, null_count, held_aggregates, default_aggregates}
use Rattle.vx_plan.specs.PlanData.{Setting, Item}
use Rattle.vx_generator_laws.proofs.SegmentSizes.{width_few}
use Rattle.vx_generator_laws.proofs.ZonePlans.{Bounded, AllBounded}

-- texts and bytes of at most 64 bytes
abbrev pub is_short : CellData → Bool
is_short (text_cell s) = nat_le (length s) 64
is_short (bytes_cell s) = nat_le (length s) 64
is_short c = true

abbrev is_short_value : ValueData → Bool
is_short_value (text_value s) = nat_le (length s) 64
is_short_value (bytes_value s) = nat_le (length s) 64
is_short_value v = true

masked_short : (valid : Bool) (v : ValueData) → is_short_value v ≡ true → is_short_value (if valid then v else null_value) ≡ true
masked_short true v h = h
masked_short false v h = refl

short_value : (c : CellData) → is_short c ≡ true → is_short_value (value c) ≡ true
short_value null_cell h = refl
short_value (bool_cell b) h = refl
short_value (int_cell i) h = refl
short_value (text_cell s) h = h
short_value (bytes_cell s) h = h
short_value (list_cell true cs) h = refl
short_value (list_cell false cs) h = refl
short_value (struct_cell true cs) h = refl
short_value (struct_cell false cs) h = refl

abbrev AllShort : List ValueData → Type 0
AllShort [] = Unit {0}
AllShort (v ∷ vs) = (is_short_value v ≡ true) × AllShort vs

short_values : (cs : List CellData) → all_by is_short cs ≡ true → AllShort (map value cs)
short_values [] h = tt
short_values (c ∷ cs) h = (short_value c (and_parts (is_short c) (all_by is_short cs) h).0, short_values cs (and_parts (is_short c) (all_by is_short cs) h).1)

-- the greater one is one of the two
one_of : (b : Bool) (v w : ValueData) → is_short_value v ≡ true → is_short_value w ≡ true → is_short_value (if b then v else w) ≡ true
one_of true v w g h = g
one_of false v w g h = h

greater_short : (v w : ValueData) → is_short_value v ≡ true → is_short_value w ≡ true → is_short_value (greater v w) ≡ true
greater_short null_value w g h = h
greater_short v null_value g h = g
greater_short v w g h = one_of (value_le v w) w v h g

lesser_short : (v w : ValueData) → is_short_value v ≡ true → is_short_value w ≡ true → is_short_value (lesser v w) ≡ true
lesser_short null_value w g h = h
lesser_short v null_value g h = g
lesser_short v w g h = one_of (value_le v w) v w g h

greatest_short : (vs : List ValueData) → AllShort vs → is_short_value (greatest vs) ≡ true
greatest_short [] h = refl
greatest_short (v ∷ vs) h = greater_short v (greatest vs) h.0 (greatest_short vs h.1)

least_short : (vs : List ValueData) → AllShort vs → is_short_value (least vs) ≡ true
least_short [] h = refl
least_short (v ∷ vs) h = lesser_short v (least vs) h.0 (least_short vs h.1)

le_of : (a b : ℕ) → nat_le a b ≡ true → a ≤ b
le_of a b h = grind (arith, nat_tests)

chosen : {A : Type 0} (b : Bool) (x y : A) → b ≡ true → (if b then x else y) ≡ x
chosen b x y e = ap (λ z. if z then x else y) e

-- no bound is cut
upper_same : (v : ValueData) → is_short_value v ≡ true → upper_bound 64 v ≡ v
upper_same null_value h = refl
upper_same (bool_value b) h = refl
upper_same (int_value n) h = refl
upper_same (text_value s) h = chosen (nat_le (length s) 64) (text_value s) _ h
upper_same (bytes_value s) h = chosen (nat_le (length s) 64) (bytes_value s) _ h
upper_same (list_value vs) h = refl
upper_same (struct_value vs) h = refl

state_size : (v : ValueData) → is_short_value v ≡ true → cell_size (utf8 true) (state_cell v) ≤ 81
state_size null_value h = omega arith
state_size (bool_value b) h = omega arith
state_size (int_value n) h = omega arith
state_size (text_value s) h = let l : length s ≤ 64 = le_of (length s) 64 h in omega arith
state_size (bytes_value s) h = let l : length s ≤ 64 = le_of (length s) 64 h in omega arith
state_size (list_value vs) h = omega arith
state_size (struct_value vs) h = omega arith

take_few : (n : ℕ) (s : List ℕ) → length (take n s) ≤ n
take_few zero s = omega arith
take_few (suc n) [] = omega arith
take_few (suc n) (x ∷ s) = let r : length (take n s) ≤ n = take_few n s in omega arith

upper_size : (v : ValueData) → is_short_value v ≡ true → cell_size (utf8 true) (state_cell (upper_bound 64 v)) ≤ 81
upper_size v h = subst (λ w. cell_size (utf8 true) (state_cell w) ≤ 81) (sym (upper_same v h)) (state_size v h)

lower_size : (v : ValueData) → is_short_value v ≡ true → cell_size (utf8 true) (state_cell (lower_bound 64 v)) ≤ 81
lower_size null_value h = omega arith
lower_size (bool_value b) h = omega arith
lower_size (int_value n) h = omega arith
lower_size (text_value s) h =
    let e : lower_bound 64 (text_value s) ≡ text_value s = chosen (nat_le (length s) 64) (text_value s) _ h in
    subst (λ w. cell_size (utf8 true) (state_cell w) ≤ 81) (sym e) (state_size (text_value s) h)
lower_size (bytes_value s) h = let l : length (take 64 s) ≤ 64 = take_few 64 s in omega arith
lower_size (list_value vs) h = omega arith
lower_size (struct_value vs) h = omega arith

-- ---- what is recorded

short_in : (items : List Item) → all_by is_short (stream_cells items) ≡ true → (c : Item) → In c items → AllShort (row_values c.1)
short_in [] h c i = absurd i
short_in (d ∷ ds) h c (inl e) = subst (λ (x : Item). AllShort (row_values x.1)) (sym e) (short_values (cells d.1) (left (cells d.1) (stream_cells ds) h))
  where
    left : (xs ys : List CellData) → all_by is_short (xs ++ ys) ≡ true → all_by is_short xs ≡ true
    left [] ys k = refl
    left (x ∷ xs) ys k = ap (λ b. b && all_by is_short xs) (and_parts (is_short x) (all_by is_short (xs ++ ys)) k).0 ∙ left xs ys (and_parts (is_short x) (all_by is_short (xs ++ ys)) k).1
short_in (d ∷ ds) h c (inr i) = short_in ds (right (cells d.1) (stream_cells ds) h) c i
  where
    right : (xs ys : List CellData) → all_by is_short (xs ++ ys) ≡ true → all_by is_short ys ≡ true
    right [] ys k = k
    right (x ∷ xs) ys k = right xs ys (and_parts (is_short x) (all_by is_short (xs ++ ys)) k).1

module _ (s : Setting) where
  integer : (p : PType) (n : Bool) (items : List Item) (a : Aggregate) → Bounded s (primitive p n) items (a, primitive p true)
  integer p n items a = record { kind = refl; sizes = λ c i. let w : ptype_bytes p ≤ 8 = width_few p in omega arith }

  count : (t : Ty) (items : List Item) → Bounded s t items (null_count, primitive U64 true)
  count t items = record { kind = refl; sizes = λ c i. omega arith }

  pub integers_bounded : (p : PType) (n : Bool) (items : List Item) → AllBounded s (primitive p n) items (held_aggregates (default_aggregates (primitive p n)) (primitive p n))
  integers_bounded p n items = (integer p n items maximum, (integer p n items minimum, (count (primitive p n) items, tt)))

  pub texts_bounded : (n : Bool) (items : List Item) → all_by is_short (stream_cells items) ≡ true → AllBounded s (utf8 n) items (held_aggregates (default_aggregates (utf8 n)) (utf8 n))
  texts_bounded n items h = (
    record { kind = refl; sizes = λ c i. upper_size (greatest (row_values c.1)) (greatest_short (row_values c.1) (short_in items h c i)) },
    (
      record { kind = refl; sizes = λ c i. lower_size (least (row_values c.1)) (least_short (row_values c.1) (short_in items h c i)) },
      (count (utf8 n) items, tt),
    ),
  )
