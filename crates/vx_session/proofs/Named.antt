-- What from_spec answers is what the definition reads.
use Rattle.std.proofs.Common.{◌≡◌, ◌≢◌, ℕ, zero, suc, ◌<◌, ◌≤◌, ◌^◌, List, [], ◌∷◌, ◌++◌, length, get_or, take, drop, refl, sym, ◌∙◌, ap, arith, Bool, true, false, Option, Some, None, Ok, Err}
use Rattle.std.specs.Prelude.{◌&&◌, ◌==◌, nat_lt, bytes_eq, if◌then◌else◌}
use Rattle.std.specs.Int.{w32, to_le_bytes, from_le_bytes}
use Rattle.std.specs.Cmp.Lexicographic.{bytes_decides}
use Rattle.std.proofs.lemmas.Nat.{le_bytes_4}
use Rattle.std.proofs.lemmas.List.{append-nil}
use Rattle.std.proofs.lemmas.Bool.Decides.{nat_tests}
use Rattle.std.proofs.lemmas.Bool.{and_from}
use Rattle.vx_layout_spec.specs.LayoutTree.{Spec}
use Rattle.vx_aggregate_spec.specs.Aggregate.{Aggregate, aggregate_id, option_bytes, maximum, minimum, bounded_maximum, bounded_minimum, null_count, sum, bloom, has_options, without_options, with_number, aggregate_of}
use Rattle.vx_aggregate_spec.proofs.SpecLaws.{specs_are_read}
use Rattle.vx_aggregate.specs.AggregateView.{aggregate}
use Rattle.vx_aggregate.specs.Specs.{NamesAggregate}
use Rattle.vx_aggregate.specs.declared.aggregate.AggregateFn.{AggregateFn}
use Rattle.vx_aggregate.specs.declared.spec.SpecError.{SpecError}
use Rattle.vx_aggregate.specs.declared.spec.SpecError.TheVariants.{UnknownAggregate, Options}
use Rattle.vx_session.specs.Kinds.{names_aggregate}
use Rattle.vx_session.specs.Aggregates.{IsNamed}

abbrev spec_named : List ℕ → List ℕ → Spec
spec_named id options = record { id = id; options = options }

-- ---- an aggregate of the id

pub known : (a : Aggregate) → names_aggregate (aggregate_id a) ≡ true
known maximum = refl
known minimum = refl
known (bounded_maximum n) = refl
known (bounded_minimum n) = refl
known null_count = refl
known sum = refl
known (bloom n) = refl

is_read : (a : Aggregate) (id options : List ℕ) → has_options a ≡ true → aggregate_id a ≡ id → option_bytes a ≡ options → aggregate_of (spec_named id options) ≡ Some a
is_read a id options h i o = rw (← i, ← o) (specs_are_read a h)

-- ---- an id that none has

differs : (a : Aggregate) (id : List ℕ) → ((a : Aggregate) → aggregate_id a ≢ id) → bytes_eq (aggregate_id a) id ≡ false
differs a id h = go (bytes_eq (aggregate_id a) id) (λ e. h a ((bytes_decides (aggregate_id a) id).0 e))
  where
    go : (b : Bool) → (b ≡ true → ⊥) → b ≡ false
    go true never = absurd (never refl)
    go false never = refl

unknown : (id : List ℕ) → ((a : Aggregate) → aggregate_id a ≢ id) → names_aggregate id ≡ false
unknown id h = rw (differs maximum id h, differs minimum id h, differs (bounded_maximum 1) id h, differs (bounded_minimum 1) id h, differs null_count id h, differs sum id h, differs (bloom 1) id h) refl

-- ---- options that none of the id has

abbrev pub Means : Spec → Aggregate → Type 0
Means s a = (aggregate_id a ≡ s.id) × (option_bytes a ≡ s.options) × (has_options a ≡ true)

one_of : (b : Bool) (x y : Option Aggregate) (P : Type 0) (a : Aggregate) → (b ≡ true → x ≡ Some a → P) → (y ≡ Some a → P) → (if b then x else y) ≡ Some a → P
one_of true x y P a f g e = f refl e
one_of false x y P a f g e = g e

same_id : (code id : List ℕ) → bytes_eq id code ≡ true → code ≡ id
same_id code id e = sym ((bytes_decides id code).0 e)

plain : (f a : Aggregate) (s : Spec) → option_bytes f ≡ [] → has_options f ≡ true → bytes_eq s.id (aggregate_id f) ≡ true → without_options f s.options ≡ Some a → Means s a
plain f a s none holds e r = go s.options refl r
  where
    go : (o : List ℕ) → o ≡ s.options → without_options f o ≡ Some a → Means s a
    go [] is r = let same : f ≡ a = cc r in rw (← same) (same_id (aggregate_id f) s.id e, none ∙ is, holds)
    go (b ∷ o) is r = absurd (cc r)

some_is : {X : Type 0} (b : Bool) (x y : X) → (if b then Some x else None) ≡ Some y → (b ≡ true) × (x ≡ y)
some_is true x y e = (refl, cc e)
some_is false x y e = absurd (cc e)

three : (a b c : Bool) → (a && (b && c)) ≡ true → (a ≡ true) × (b ≡ true) × (c ≡ true)
three true true true e = (refl, refl, refl)
three true true false e = absurd (cc e)
three true false c e = absurd (cc e)
three false b c e = absurd (cc e)

abbrev four : List ℕ → ℕ
four bytes = from_le_bytes w32 (take 4 bytes)

four_few : (bytes : List ℕ) → ((i : ℕ) → get_or bytes i 0 < 256) → four bytes < 2 ^ 32
four_few [] few = omega arith
four_few (a ∷ []) few = omega (arith, few 0)
four_few (a ∷ b ∷ []) few = omega (arith, few 0, few 1)
four_few (a ∷ b ∷ c ∷ []) few = omega (arith, few 0, few 1, few 2)
four_few (a ∷ b ∷ c ∷ d ∷ more) few = omega (arith, few 0, few 1, few 2, few 3)

four_back : (bytes : List ℕ) → ((i : ℕ) → get_or bytes i 0 < 256) → 4 ≤ length bytes → to_le_bytes w32 (four bytes) ++ drop 4 bytes ≡ bytes
four_back [] few le = absurd (omega (arith, le))
four_back (a ∷ []) few le = absurd (omega (arith, le))
four_back (a ∷ b ∷ []) few le = absurd (omega (arith, le))
four_back (a ∷ b ∷ c ∷ []) few le = absurd (omega (arith, le))
four_back (a ∷ b ∷ c ∷ d ∷ more) few le =
    ap (λ front. front ++ more) (le_bytes_4 (a ∷ b ∷ c ∷ d ∷ []) (four (a ∷ b ∷ c ∷ d ∷ more)) refl small refl)
  where
    small : (i : ℕ) → get_or (a ∷ b ∷ c ∷ d ∷ []) i 0 < 256
    small zero = few 0
    small (suc zero) = few 1
    small (suc (suc zero)) = few 2
    small (suc (suc (suc zero))) = few 3
    small (suc (suc (suc (suc i)))) = omega arith

-- an aggregate of a number, and bytes behind it
record Numbered (f : ℕ → Aggregate) (rest : List ℕ) : Type 0 where
  id : (n : ℕ) → aggregate_id (f n) ≡ aggregate_id (f 1)
  bytes : (n : ℕ) → option_bytes (f n) ≡ to_le_bytes w32 n ++ rest
  range : (n : ℕ) → has_options (f n) ≡ (nat_lt 0 n && nat_lt n (2 ^ 32))

numbered : (f : ℕ → Aggregate) (a : Aggregate) (rest : List ℕ) (s : Spec) → Numbered f rest → ((i : ℕ) → get_or s.options i 0 < 256)
    → bytes_eq s.id (aggregate_id (f 1)) ≡ true → with_number f rest s.options ≡ Some a → Means s a
numbered f a rest s is few e r =
    let p = some_is ((length s.options == length (0 ∷ 0 ∷ 0 ∷ 0 ∷ rest)) && (bytes_eq (drop 4 s.options) rest && nat_lt 0 (four s.options))) (f (four s.options)) a r in
    let t = three (length s.options == length (0 ∷ 0 ∷ 0 ∷ 0 ∷ rest)) (bytes_eq (drop 4 s.options) rest) (nat_lt 0 (four s.options)) p.0 in
    let long : 4 ≤ length s.options = grind (arith, nat_tests, t.0) in
    let behind : drop 4 s.options ≡ rest = (bytes_decides (drop 4 s.options) rest).0 t.1 in
    let low : nat_lt (four s.options) (2 ^ 32) ≡ true = grind (arith, nat_tests, four_few s.options few) in
    rw (← p.1) (
      is.id (four s.options) ∙ same_id (aggregate_id (f 1)) s.id e,
      is.bytes (four s.options) ∙ ap (λ r. to_le_bytes w32 (four s.options) ++ r) (sym behind) ∙ four_back s.options few long,
      is.range (four s.options) ∙ and_from (nat_lt 0 (four s.options)) (nat_lt (four s.options) (2 ^ 32)) t.2 low,
    )

none_behind : (xs : List ℕ) → xs ≡ xs ++ []
none_behind xs = sym (append-nil xs)

max_bound : Numbered bounded_maximum []
max_bound = record { id = λ n. refl; bytes = λ n. none_behind (to_le_bytes w32 n); range = λ n. refl }

min_bound : Numbered bounded_minimum []
min_bound = record { id = λ n. refl; bytes = λ n. none_behind (to_le_bytes w32 n); range = λ n. refl }

filter : Numbered bloom (0 ∷ 0 ∷ 0 ∷ 0 ∷ [])
filter = record { id = λ n. refl; bytes = λ n. refl; range = λ n. refl }

pub means : (s : Spec) (a : Aggregate) → ((i : ℕ) → get_or s.options i 0 < 256) → aggregate_of s ≡ Some a → Means s a
means s a few =
    one_of _ _ _ (Means s a) a (plain maximum a s refl refl)
    (one_of _ _ _ (Means s a) a (plain minimum a s refl refl)
    (one_of _ _ _ (Means s a) a (numbered bounded_maximum a [] s max_bound few)
    (one_of _ _ _ (Means s a) a (numbered bounded_minimum a [] s min_bound few)
    (one_of _ _ _ (Means s a) a (plain null_count a s refl refl)
    (one_of _ _ _ (Means s a) a (plain sum a s refl refl)
    (one_of _ _ _ (Means s a) a (numbered bloom a (0 ∷ 0 ∷ 0 ∷ 0 ∷ []) s filter few) (λ e. absurd (cc e))))))))

refused : (id options : List ℕ) → ((i : ℕ) → get_or options i 0 < 256)
    → ((a : Aggregate) → has_options a ≡ true → aggregate_id a ≡ id → option_bytes a ≢ options) → aggregate_of (spec_named id options) ≡ None
refused id options few none = go (aggregate_of (spec_named id options)) refl
  where
    go : (o : Option Aggregate) → aggregate_of (spec_named id options) ≡ o → aggregate_of (spec_named id options) ≡ None
    go None e = e
    go (Some a) e = let m = means (spec_named id options) a few e in absurd (none a m.2 m.0 m.1)

-- ---- the answer

pub found : (id options : List ℕ) (f : AggregateFn) → has_options (aggregate f) ≡ true → NamesAggregate id options (Ok f) → IsNamed id options (Ok f)
found id options f h is = (ap names_aggregate (sym is.0) ∙ known (aggregate f), is_read (aggregate f) id options h is.0 is.1)

pub not_found : (id options : List ℕ) (e : SpecError) → ((i : ℕ) → get_or options i 0 < 256) → NamesAggregate id options (Err e) → IsNamed id options (Err e)
not_found id options UnknownAggregate few is = unknown id is
not_found id options Options few is = (ap names_aggregate (sym is.0.1) ∙ known is.0.0, refused id options few is.1)
