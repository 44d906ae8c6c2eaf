-- Rows of a type, as values and as folds read them.
use Rattle.std.proofs.Common.{◌≡◌, ℕ, ◌-◌, ◌<◌, ◌≤◌, ◌^◌, true, false, List, [], ◌∷◌, map, refl, ap₂, arith, lit<, lit≤}
use Rattle.std.specs.Prelude.{is_some, pos, negsuc, ℤ}
use Rattle.std.proofs.lemmas.Bool.{and_from, and_parts}
use Rattle.std.proofs.lemmas.Bool.Decides.{nat_tests}
use Rattle.vx_model.specs.declared.ptype.PType.{PType}
use Rattle.vx_model.specs.declared.ptype.PType.TheVariants.{U8, U16, U32, U64, I8, I16, I32, I64}
use Rattle.vx_model.specs.Numbers.{int_fits, is_between}
use Rattle.vx_model.specs.Words.{all_by}
use Rattle.vx_model.specs.Ty.{Ty, boolean, primitive, utf8, binary, list, struct, extension, has_order}
use Rattle.vx_model.specs.ValueData.{ValueData, null_value, bool_value, int_value, text_value, bytes_value, list_value, struct_value, value_fits, is_null_value, is_row_value}
use Rattle.vx_aggregate_spec.specs.Aggregate.{bound_state, byte_bound_state, filter_state}
use Rattle.vx_zone_spec.specs.Record.{number_of_value}
use Rattle.vx_zone_record.specs.Scalars.{shallow, shallow_rows, is_small}

-- ---- types whose values are compared

pub bound_order : (t : Ty) → is_some (bound_state t) ≡ true → has_order t ≡ true
bound_order (boolean n) h = refl
bound_order (primitive p n) h = refl
bound_order (utf8 n) h = refl
bound_order (binary n) h = refl
bound_order (list t n) h = cc
bound_order (struct fs n) h = cc
bound_order (extension tag t) h = bound_order t h

pub byte_order : (t : Ty) → is_some (byte_bound_state t) ≡ true → has_order t ≡ true
byte_order (boolean n) h = refl
byte_order (primitive p n) h = refl
byte_order (utf8 n) h = refl
byte_order (binary n) h = refl
byte_order (list t n) h = cc
byte_order (struct fs n) h = cc
byte_order (extension tag t) h = byte_order t h

pub filter_order : (t : Ty) → is_some (filter_state t) ≡ true → has_order t ≡ true
filter_order (boolean n) h = refl
filter_order (primitive p n) h = refl
filter_order (utf8 n) h = refl
filter_order (binary n) h = refl
filter_order (list t n) h = cc
filter_order (struct fs n) h = cc
filter_order (extension tag t) h = filter_order t h

-- ---- rows that are compared are no lists and no structs

no_list : (t : Ty) (v : ValueData) → has_order t ≡ true → value_fits t v ≡ true → shallow v ≡ v
no_list t null_value o f = refl
no_list t (bool_value b) o f = refl
no_list t (int_value n) o f = refl
no_list t (text_value s) o f = refl
no_list t (bytes_value s) o f = refl
no_list (boolean n) (list_value vs) o f = cc
no_list (primitive p n) (list_value vs) o f = cc
no_list (utf8 n) (list_value vs) o f = cc
no_list (binary n) (list_value vs) o f = cc
no_list (list t n) (list_value vs) o f = cc
no_list (struct fs n) (list_value vs) o f = cc
no_list (extension tag t) (list_value vs) o f = no_list t (list_value vs) o f
no_list (boolean n) (struct_value vs) o f = cc
no_list (primitive p n) (struct_value vs) o f = cc
no_list (utf8 n) (struct_value vs) o f = cc
no_list (binary n) (struct_value vs) o f = cc
no_list (list t n) (struct_value vs) o f = cc
no_list (struct fs n) (struct_value vs) o f = cc
no_list (extension tag t) (struct_value vs) o f = no_list t (struct_value vs) o f

pub shallow_is : (t : Ty) (v : ValueData) → has_order t ≡ true → is_row_value t v ≡ true → shallow v ≡ v
shallow_is t null_value o f = refl
shallow_is t (bool_value b) o f = refl
shallow_is t (int_value n) o f = refl
shallow_is t (text_value s) o f = refl
shallow_is t (bytes_value s) o f = refl
shallow_is t (list_value vs) o f = no_list t (list_value vs) o f
shallow_is t (struct_value vs) o f = no_list t (struct_value vs) o f

pub rows_are : {R : Type 0} (t : Ty) (f : R → ValueData) (rows : List R) → has_order t ≡ true → all_by (is_row_value t) (map f rows) ≡ true → shallow_rows f rows ≡ map f rows
rows_are t f [] o h = refl
rows_are t f (r ∷ rows) o h =
    ap₂ (λ (v : ValueData) (vs : List ValueData). v ∷ vs)
    (shallow_is t (f r) o (and_parts (is_row_value t (f r)) (all_by (is_row_value t) (map f rows)) h).0)
    (rows_are t f rows o (and_parts (is_row_value t (f r)) (all_by (is_row_value t) (map f rows)) h).1)

-- ---- what isn't looked into

pub null_shallow : (v : ValueData) → is_null_value (shallow v) ≡ is_null_value v
null_shallow null_value = refl
null_shallow (bool_value b) = refl
null_shallow (int_value n) = refl
null_shallow (text_value s) = refl
null_shallow (bytes_value s) = refl
null_shallow (list_value vs) = refl
null_shallow (struct_value vs) = refl

pub number_shallow : (v : ValueData) → number_of_value (shallow v) ≡ number_of_value v
number_shallow null_value = refl
number_shallow (bool_value b) = refl
number_shallow (int_value n) = refl
number_shallow (text_value s) = refl
number_shallow (bytes_value s) = refl
number_shallow (list_value vs) = refl
number_shallow (struct_value vs) = refl

-- ---- numbers have 64 bits

fits_above : (half n : ℕ) → n < half → is_between (negsuc (half - 1)) (pos half) (pos n) ≡ true
fits_above half n lt = grind (arith, nat_tests, lt)

fits_below : (half n : ℕ) → n < half → is_between (negsuc (half - 1)) (pos half) (negsuc n) ≡ true
fits_below half n lt = grind (arith, nat_tests, lt)

number_below : (m n : ℕ) → is_between (pos 0) (pos m) (pos n) ≡ true → n < m
number_below m n h = grind (arith, nat_tests, h)

pub number_above : (k m n : ℕ) → is_between (negsuc k) (pos m) (pos n) ≡ true → n < m
number_above k m n h = grind (arith, nat_tests, h)

pub number_under : (k m n : ℕ) → is_between (negsuc k) (pos m) (negsuc n) ≡ true → n ≤ k
number_under k m n h = grind (arith, nat_tests, h)

small_above : (n m : ℕ) → n < m → m ≤ 2 ^ 64 → is_small (int_value (pos n)) ≡ true
small_above n m lt le = fits_above (2 ^ 64) n (omega arith)

small_below : (n m : ℕ) → n ≤ m → m < 2 ^ 64 → is_small (int_value (negsuc n)) ≡ true
small_below n m le lt = fits_below (2 ^ 64) n (omega arith)

small_int : (p : PType) (n : ℤ) → int_fits p n ≡ true → is_small (int_value n) ≡ true
small_int U8 (pos n) h = small_above n (2 ^ 8) (number_below (2 ^ 8) n h) (lit≤ tt)
small_int U16 (pos n) h = small_above n (2 ^ 16) (number_below (2 ^ 16) n h) (lit≤ tt)
small_int U32 (pos n) h = small_above n (2 ^ 32) (number_below (2 ^ 32) n h) (lit≤ tt)
small_int U64 (pos n) h = small_above n (2 ^ 64) (number_below (2 ^ 64) n h) (lit≤ tt)
small_int I8 (pos n) h = small_above n 128 (number_above 127 128 n h) (lit≤ tt)
small_int I16 (pos n) h = small_above n 32768 (number_above 32767 32768 n h) (lit≤ tt)
small_int I32 (pos n) h = small_above n (2 ^ 31) (number_above 2147483647 (2 ^ 31) n h) (lit≤ tt)
small_int I64 (pos n) h = small_above n (2 ^ 63) (number_above 9223372036854775807 (2 ^ 63) n h) (lit≤ tt)
small_int U8 (negsuc n) h = cc
small_int U16 (negsuc n) h = cc
small_int U32 (negsuc n) h = cc
small_int U64 (negsuc n) h = cc
small_int I8 (negsuc n) h = small_below n 127 (number_under 127 128 n h) (lit< tt)
small_int I16 (negsuc n) h = small_below n 32767 (number_under 32767 32768 n h) (lit< tt)
small_int I32 (negsuc n) h = small_below n 2147483647 (number_under 2147483647 (2 ^ 31) n h) (lit< tt)
small_int I64 (negsuc n) h = small_below n 9223372036854775807 (number_under 9223372036854775807 (2 ^ 63) n h) (lit< tt)

small_fits : (t : Ty) (v : ValueData) → value_fits t v ≡ true → is_small v ≡ true
small_fits t null_value f = refl
small_fits t (bool_value true) f = refl
small_fits t (bool_value false) f = refl
small_fits t (text_value s) f = refl
small_fits t (bytes_value s) f = refl
small_fits t (list_value vs) f = refl
small_fits t (struct_value vs) f = refl
small_fits (boolean n) (int_value i) f = cc
small_fits (primitive p n) (int_value i) f = small_int p i f
small_fits (utf8 n) (int_value i) f = cc
small_fits (binary n) (int_value i) f = cc
small_fits (list t n) (int_value i) f = cc
small_fits (struct fs n) (int_value i) f = cc
small_fits (extension tag t) (int_value i) f = small_fits t (int_value i) f

pub small_row : (t : Ty) (v : ValueData) → is_row_value t v ≡ true → is_small v ≡ true
small_row t null_value f = refl
small_row t (bool_value b) f = small_fits t (bool_value b) f
small_row t (int_value n) f = small_fits t (int_value n) f
small_row t (text_value s) f = refl
small_row t (bytes_value s) f = refl
small_row t (list_value vs) f = refl
small_row t (struct_value vs) f = refl

pub all_small : (t : Ty) (vs : List ValueData) → all_by (is_row_value t) vs ≡ true → all_by is_small vs ≡ true
all_small t [] h = refl
all_small t (v ∷ vs) h =
    let parts : (is_row_value t v ≡ true) × (all_by (is_row_value t) vs ≡ true) = and_parts (is_row_value t v) (all_by (is_row_value t) vs) h in
    and_from (is_small v) (all_by is_small vs) (small_row t v parts.0) (all_small t vs parts.1)
