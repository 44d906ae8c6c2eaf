-- The sorts of values that a column can have.
use Rattle.std.proofs.Common.{◌≡◌, ℕ, ◌&&◌, Bool, true, false, not, List, [], ◌∷◌, Some, refl, sym, ap, ◌∙◌, ⊎_elim}
use Rattle.std.specs.Str.{is_utf8}
use Rattle.std.specs.Option.{option_map}
use Rattle.std.proofs.lemmas.Bool.{true≢false, and_parts}
use Rattle.vx_model.specs.Ty.{Ty, boolean, primitive, utf8, binary, list, struct, extension, has_order}
use Rattle.vx_model.specs.ValueData.{ValueData, null_value, bool_value, int_value, text_value, bytes_value, list_value, struct_value, value_fits, is_null_value}
use Rattle.vx_path.specs.Lists.{In}
use Rattle.vx_bloom_spec.specs.Values.{hashed_bytes, value_hash}
use Rattle.vx_zone_spec.specs.Pruning.{Predicate, eq, not_eq, lt, lt_eq, gt, gt_eq, is_null, is_not_null, both, either, negated, is_literal, predicate_fits}
use Rattle.vx_zone_spec.specs.Statements.{is_text, is_value_of, AllValues}

pub data Sort : Type 0 where
  truths : Sort
  numbers : Sort
  texts : Sort
  blobs : Sort
  nested : Sort

-- null, or a value of the sort; texts are UTF-8
abbrev pub has_sort : Sort → ValueData → Bool
has_sort s null_value = true
has_sort truths (bool_value b) = true
has_sort numbers (int_value n) = true
has_sort texts (text_value t) = is_utf8 t
has_sort blobs (bytes_value b) = true
has_sort nested (list_value vs) = true
has_sort nested (struct_value vs) = true
has_sort s v = false

abbrev pub AllSort : Sort → List ValueData → Type 0
AllSort s [] = Unit {0}
AllSort s (v ∷ vs) = (has_sort s v ≡ true) × AllSort s vs

-- a value that isn't null and can be compared with those of the sort
abbrev pub Literal : Sort → ValueData → Type 0
Literal truths (bool_value b) = Unit {0}
Literal numbers (int_value n) = Unit {0}
Literal texts (text_value t) = Unit {0}
Literal blobs (bytes_value b) = Unit {0}
Literal s v = ⊥

-- each literal of the predicate is one
abbrev pub Literals : Sort → Predicate → Type 0
Literals s (eq v) = Literal s v
Literals s (not_eq v) = Literal s v
Literals s (lt v) = Literal s v
Literals s (lt_eq v) = Literal s v
Literals s (gt v) = Literal s v
Literals s (gt_eq v) = Literal s v
Literals s is_null = Unit {0}
Literals s is_not_null = Unit {0}
Literals s (both p q) = Literals s p × Literals s q
Literals s (either p q) = Literals s p × Literals s q
Literals s (negated p) = Literals s p

-- ---- the sort of a type

abbrev pub sort_of : Ty → Sort
sort_of (boolean n) = truths
sort_of (primitive p n) = numbers
sort_of (utf8 n) = texts
sort_of (binary n) = blobs
sort_of (list t n) = nested
sort_of (struct fs n) = nested
sort_of (extension tag t) = sort_of t

fitting_sort : (t : Ty) (v : ValueData) → value_fits t v ≡ true → is_text v ≡ true → has_sort (sort_of t) v ≡ true
fitting_sort t null_value f e = refl
fitting_sort (boolean n) (bool_value b) f e = refl
fitting_sort (primitive p n) (int_value b) f e = refl
fitting_sort (utf8 n) (text_value b) f e = e
fitting_sort (binary n) (bytes_value b) f e = refl
fitting_sort (list t n) (list_value b) f e = refl
fitting_sort (struct fs n) (struct_value b) f e = refl
fitting_sort (extension tag t) v f e = fitting_sort t v f e
fitting_sort t v f e = absurd (true≢false (sym f))

pub value_sort : (t : Ty) (v : ValueData) → is_value_of t v ≡ true → has_sort (sort_of t) v ≡ true
value_sort t null_value h = refl
value_sort t (bool_value b) h = fitting_sort t (bool_value b) (and_parts (value_fits t (bool_value b)) true h).0 refl
value_sort t (int_value b) h = fitting_sort t (int_value b) (and_parts (value_fits t (int_value b)) true h).0 refl
value_sort t (text_value b) h = fitting_sort t (text_value b) (and_parts (value_fits t (text_value b)) (is_utf8 b) h).0 (and_parts (value_fits t (text_value b)) (is_utf8 b) h).1
value_sort t (bytes_value b) h = fitting_sort t (bytes_value b) (and_parts (value_fits t (bytes_value b)) true h).0 refl
value_sort t (list_value b) h = fitting_sort t (list_value b) (and_parts (value_fits t (list_value b)) true h).0 refl
value_sort t (struct_value b) h = fitting_sort t (struct_value b) (and_parts (value_fits t (struct_value b)) true h).0 refl

pub values_sort : (t : Ty) (vs : List ValueData) → AllValues t vs → AllSort (sort_of t) vs
values_sort t [] h = tt
values_sort t (v ∷ vs) h = (value_sort t v h.0, values_sort t vs h.1)

is_nested : Sort → Bool
is_nested nested = true
is_nested s = false

pub order_sort : (t : Ty) → has_order t ≡ true → sort_of t ≡ nested → ⊥
unfolding is_nested
order_sort (boolean n) o e = true≢false (sym (ap is_nested e))
order_sort (primitive p n) o e = true≢false (sym (ap is_nested e))
order_sort (utf8 n) o e = true≢false (sym (ap is_nested e))
order_sort (binary n) o e = true≢false (sym (ap is_nested e))
order_sort (list t n) o e = true≢false (sym o)
order_sort (struct fs n) o e = true≢false (sym o)
order_sort (extension tag t) o e = order_sort t o e

fitting_literal : (t : Ty) (v : ValueData) → has_order t ≡ true → not (is_null_value v) ≡ true → value_fits t v ≡ true → Literal (sort_of t) v
fitting_literal t null_value o n f = absurd (true≢false (sym n))
fitting_literal (boolean m) (bool_value b) o n f = tt
fitting_literal (primitive p m) (int_value b) o n f = tt
fitting_literal (utf8 m) (text_value b) o n f = tt
fitting_literal (binary m) (bytes_value b) o n f = tt
fitting_literal (list t m) v o n f = absurd (true≢false (sym o))
fitting_literal (struct fs m) v o n f = absurd (true≢false (sym o))
fitting_literal (extension tag t) v o n f = fitting_literal t v o n f
fitting_literal t v o n f = absurd (true≢false (sym f))

pub literal_sort : (t : Ty) (v : ValueData) → is_literal t v ≡ true → Literal (sort_of t) v
literal_sort t v h =
    let r : (not (is_null_value v) && value_fits t v) ≡ true = (and_parts (has_order t) (not (is_null_value v) && value_fits t v) h).1 in
    fitting_literal t v (and_parts (has_order t) (not (is_null_value v) && value_fits t v) h).0 (and_parts (not (is_null_value v)) (value_fits t v) r).0 (and_parts (not (is_null_value v)) (value_fits t v) r).1

pub literals_sort : (t : Ty) (p : Predicate) → predicate_fits t p ≡ true → Literals (sort_of t) p
literals_sort t (eq v) h = literal_sort t v h
literals_sort t (not_eq v) h = literal_sort t v h
literals_sort t (lt v) h = literal_sort t v h
literals_sort t (lt_eq v) h = literal_sort t v h
literals_sort t (gt v) h = literal_sort t v h
literals_sort t (gt_eq v) h = literal_sort t v h
literals_sort t is_null h = tt
literals_sort t is_not_null h = tt
literals_sort t (both p q) h = (literals_sort t p (and_parts (predicate_fits t p) (predicate_fits t q) h).0, literals_sort t q (and_parts (predicate_fits t p) (predicate_fits t q) h).1)
literals_sort t (either p q) h = (literals_sort t p (and_parts (predicate_fits t p) (predicate_fits t q) h).0, literals_sort t q (and_parts (predicate_fits t p) (predicate_fits t q) h).1)
literals_sort t (negated p) h = literals_sort t p h

-- ---- hashes

fitting_hash : (hash : List ℕ → ℕ) (t : Ty) (v : ValueData) → has_order t ≡ true → value_fits t v ≡ true → (v ≡ null_value → ⊥) → (b : List ℕ) × (hashed_bytes t v ≡ Some b)
fitting_hash hash t null_value o f n = absurd (n refl)
fitting_hash hash (boolean m) (bool_value b) o f n = (_, refl)
fitting_hash hash (primitive p m) (int_value b) o f n = (_, refl)
fitting_hash hash (utf8 m) (text_value b) o f n = (_, refl)
fitting_hash hash (binary m) (bytes_value b) o f n = (_, refl)
fitting_hash hash (list t m) v o f n = absurd (true≢false (sym o))
fitting_hash hash (struct fs m) v o f n = absurd (true≢false (sym o))
fitting_hash hash (extension tag t) v o f n = fitting_hash hash t v o f n
fitting_hash hash t v o f n = absurd (true≢false (sym f))

fits_unless_null : (t : Ty) (v : ValueData) → is_value_of t v ≡ true → (v ≡ null_value → ⊥) → value_fits t v ≡ true
fits_unless_null t null_value h n = absurd (n refl)
fits_unless_null t (bool_value b) h n = (and_parts (value_fits t (bool_value b)) true h).0
fits_unless_null t (int_value b) h n = (and_parts (value_fits t (int_value b)) true h).0
fits_unless_null t (text_value b) h n = (and_parts (value_fits t (text_value b)) (is_utf8 b) h).0
fits_unless_null t (bytes_value b) h n = (and_parts (value_fits t (bytes_value b)) true h).0
fits_unless_null t (list_value b) h n = (and_parts (value_fits t (list_value b)) true h).0
fits_unless_null t (struct_value b) h n = (and_parts (value_fits t (struct_value b)) true h).0

-- a value that isn't null has a hash
pub value_hashed : (hash : List ℕ → ℕ) (t : Ty) (v : ValueData) → has_order t ≡ true → is_value_of t v ≡ true → (v ≡ null_value → ⊥) → (b : List ℕ) × (value_hash hash t v ≡ Some (hash b))
value_hashed hash t v o h n =
    let r : (b : List ℕ) × (hashed_bytes t v ≡ Some b) = fitting_hash hash t v o (fits_unless_null t v h n) n in
    (r.0, ap (option_map hash) r.1)

pub value_in : (t : Ty) (vs : List ValueData) (w : ValueData) → AllValues t vs → In w vs → is_value_of t w ≡ true
value_in t [] w a i = absurd i
value_in t (v ∷ vs) w a i = ⊎_elim (λ e. ap (is_value_of t) e ∙ a.0) (λ j. value_in t vs w a.1 j) i
