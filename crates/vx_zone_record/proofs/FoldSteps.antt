-- Folds, one row at a time.
use Rattle.std.proofs.Common.{◌≡◌, ℕ, suc, ◌+◌, ◌-◌, ◌<◌, ◌≤◌, ◌^◌, true, false, List, ◌∷◌, map, length, drop, get_or, refl, sym, ap, ◌∙◌, arith}
use Rattle.std.specs.Prelude.{ℤ, pos, negsuc, ◌+ℤ◌, ◌-ℤ◌, unsigned_abs}
use Rattle.std.proofs.lemmas.Int.{ints}
use Rattle.vx_model.specs.Words.{all_by}
use Rattle.std.proofs.lemmas.List.{drop_more, drop_all}
use Rattle.vx_model.specs.ValueData.{ValueData, null_value, bool_value, int_value, text_value, bytes_value, list_value, struct_value, is_null_value}
use Rattle.vx_zone_spec.specs.Record.{nulls, number_of_value, exact_sum}
use Rattle.vx_zone_spec.specs.ValueOrder.{greater, lesser, greatest, least}
use Rattle.vx_zone_record.specs.Scalars.{shallow, shallow_rows, is_small, is_small_number}
use Rattle.vx_zone_record.proofs.RowValues.{null_shallow, number_shallow, number_above, number_under}
use Rattle.vx_zone_record.proofs.Walks.{holds_here}

null_cons : (v : ValueData) (vs : List ValueData) → is_null_value v ≡ true → nulls (v ∷ vs) ≡ suc (nulls vs)
null_cons null_value vs h = refl
null_cons (bool_value b) vs h = cc
null_cons (int_value n) vs h = cc
null_cons (text_value s) vs h = cc
null_cons (bytes_value s) vs h = cc
null_cons (list_value us) vs h = cc
null_cons (struct_value us) vs h = cc

some_cons : (v : ValueData) (vs : List ValueData) → is_null_value v ≡ false → nulls (v ∷ vs) ≡ nulls vs
some_cons null_value vs h = cc
some_cons (bool_value b) vs h = refl
some_cons (int_value n) vs h = refl
some_cons (text_value s) vs h = refl
some_cons (bytes_value s) vs h = refl
some_cons (list_value us) vs h = refl
some_cons (struct_value us) vs h = refl

over : (d n e q r all : ℤ) → e ≡ d +ℤ n → q ≡ n +ℤ r → d +ℤ q ≡ all → e +ℤ r ≡ all
over d n e q r all h k s = omega (arith, ints)

pub none_summed : (d : ℤ) → (pos 0 -ℤ pos 0) +ℤ d ≡ d
none_summed d = omega (arith, ints)

no_more : (d : ℤ) → d +ℤ pos 0 ≡ d
no_more d = omega (arith, ints)

module _ {R : Type 0} (f : R → ValueData) where
  pub drop_null : (xs : List R) (i : ℕ) (x : R) (s : ValueData) → i < length xs → x ≡ get_or xs i x → s ≡ shallow (f x) → is_null_value s ≡ true → nulls (map f (drop i xs)) ≡ suc (nulls (map f (drop (i + 1) xs)))
  drop_null xs i x s lt is e n = rw (drop_more xs i x lt, ← is) (null_cons (f x) (map f (drop (i + 1) xs)) (sym (null_shallow (f x)) ∙ ap is_null_value (sym e) ∙ n))

  pub drop_some : (xs : List R) (i : ℕ) (x : R) (s : ValueData) → i < length xs → x ≡ get_or xs i x → s ≡ shallow (f x) → is_null_value s ≡ false → nulls (map f (drop i xs)) ≡ nulls (map f (drop (i + 1) xs))
  drop_some xs i x s lt is e n = rw (drop_more xs i x lt, ← is) (some_cons (f x) (map f (drop (i + 1) xs)) (sym (null_shallow (f x)) ∙ ap is_null_value (sym e) ∙ n))

  pub drop_greatest : (xs : List R) (i j : ℕ) (x : R) → i < length xs → x ≡ get_or xs i x → j ≡ i + 1 → greatest (shallow_rows f (drop i xs)) ≡ greater (shallow (f x)) (greatest (shallow_rows f (drop j xs)))
  drop_greatest xs i j x lt is e = rw (drop_more xs i x lt, ← is, e) refl

  pub drop_least : (xs : List R) (i j : ℕ) (x : R) → i < length xs → x ≡ get_or xs i x → j ≡ i + 1 → least (shallow_rows f (drop i xs)) ≡ lesser (shallow (f x)) (least (shallow_rows f (drop j xs)))
  drop_least xs i j x lt is e = rw (drop_more xs i x lt, ← is, e) refl

  drop_sum : (xs : List R) (i : ℕ) (x : R) → i < length xs → x ≡ get_or xs i x → exact_sum (map f (drop i xs)) ≡ number_of_value (f x) +ℤ exact_sum (map f (drop (i + 1) xs))
  drop_sum xs i x lt is = rw (drop_more xs i x lt, ← is) refl

  pub small_here : (xs : List R) (i : ℕ) (x : R) (s : ValueData) → i < length xs → x ≡ get_or xs i x → s ≡ shallow (f x) → all_by is_small (map f (drop i xs)) ≡ true → is_small s ≡ true
  small_here xs i x s lt is e h = ap is_small_number (ap number_of_value e ∙ number_shallow (f x)) ∙ holds_here is_small f xs i x lt is h

  -- a row's number goes over into the sum so far
  pub sum_more : (xs : List R) (i : ℕ) (x : R) (s : ValueData) (d e all : ℤ) → i < length xs → x ≡ get_or xs i x → s ≡ shallow (f x) → e ≡ d +ℤ number_of_value s
      → d +ℤ exact_sum (map f (drop i xs)) ≡ all → e +ℤ exact_sum (map f (drop (i + 1) xs)) ≡ all
  sum_more xs i x s d e all lt is seen k sum =
      over d (number_of_value (f x)) e (exact_sum (map f (drop i xs))) (exact_sum (map f (drop (i + 1) xs))) all
      (k ∙ ap (λ (z : ℤ). d +ℤ z) (ap number_of_value seen ∙ number_shallow (f x))) (drop_sum xs i x lt is) sum

  -- all rows are summed
  pub sum_all : (xs : List R) (i : ℕ) (d : ℤ) → length xs ≤ i → d +ℤ exact_sum (map f (drop i xs)) ≡ exact_sum (map f xs) → d ≡ exact_sum (map f xs)
  sum_all xs i d le e = sym (no_more d) ∙ ap (λ (ys : List R). d +ℤ exact_sum (map f ys)) (sym (drop_all i xs le)) ∙ e

-- ---- one number more

number_size : (k : ℕ) → is_small_number (pos k) ≡ true → k ≤ 2 ^ 64
number_size k h = let lt : k < 2 ^ 64 = number_above (2 ^ 64 - 1) (2 ^ 64) k h in omega arith

under_size : (k : ℕ) → is_small_number (negsuc k) ≡ true → suc k ≤ 2 ^ 64
under_size k h = let le : k ≤ 2 ^ 64 - 1 = number_under (2 ^ 64 - 1) (2 ^ 64) k h in omega arith

pub small_size : (n : ℤ) → is_small_number n ≡ true → unsigned_abs n ≤ 2 ^ 64
small_size (pos k) h = number_size k h
small_size (negsuc k) h = under_size k h

pub ruleset term_rules = (small_size, ints)

pub ruleset fold_rules = (drop_null, drop_some, drop_greatest, drop_least, drop_all)
