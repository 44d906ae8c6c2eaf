-- Ids and options of aggregates tell them apart.
use Rattle.std.proofs.Common.{◌≡◌, ◌≢◌, ℕ, ◌<◌, ◌^◌, ◌+◌, List, [], ◌∷◌, ◌++◌, length, refl, sym, ◌∙◌, ap, rules, arith, Bool, true, false, Result, Ok, Err, subst}
use Rattle.std.proofs.lemmas.Grind.{common_steps}
use Rattle.std.specs.Prelude.{◌&&◌, nat_lt, codes, bytes_eq, MatchResult, if◌then◌else◌}
use Rattle.std.proofs.lemmas.Bool.Decides.{nat_tests}
use Rattle.std.specs.Int.{w32, to_le_bytes}
use Rattle.std.proofs.lemmas.Bool.{and_parts}
use Rattle.vx_bloom_spec.specs.Bytes.{number_bytes, number_at}
use Rattle.vx_bloom_options.specs.Options.{blocks_in, hash_fn_in, hash_number, options_bytes, ReadsOptions}
use Rattle.vx_bloom_options.specs.declared.options.BloomOptions.{BloomOptions}
use Rattle.vx_bloom_options.specs.declared.options.OptionsError.{OptionsError}
use Rattle.vx_bloom_options.specs.declared.options.OptionsError.TheVariants as errors
use Rattle.vx_bloom_options.proofs.ReadOptions.{ReadsTwo, reads_two, hash_number_zero}
use Rattle.vx_aggregate_spec.specs.Aggregate.{Aggregate, aggregate_id, option_bytes, maximum, minimum, bounded_maximum, bounded_minimum, null_count, sum, bloom, has_options}
use Rattle.vx_aggregate.specs.AggregateView.{aggregate}
use Rattle.vx_aggregate.specs.Specs.{NamesAggregate}
use Rattle.vx_aggregate.specs.declared.aggregate.AggregateFn.{AggregateFn}
use Rattle.vx_aggregate.specs.declared.spec.SpecError.{SpecError}
use Rattle.vx_aggregate.specs.declared.spec.SpecError.TheVariants.{UnknownAggregate, Options}

-- ---- what an id says of options

-- 4 of a bound, 5 of a filter, less of an aggregate without options
sort : Aggregate → ℕ
sort maximum = 0
sort minimum = 0
sort null_count = 0
sort sum = 0
sort (bounded_maximum n) = 4
sort (bounded_minimum n) = 4
sort (bloom n) = 5

abbrev sort_named : List ℕ → ℕ
sort_named id = if bytes_eq id (codes "vortex.bounded_max") then 4 else if bytes_eq id (codes "vortex.bounded_min") then 4
    else if bytes_eq id (codes "vortex.bloom_filter.sbbf") then 5 else 0

sort_is : (a : Aggregate) → sort_named (aggregate_id a) ≡ sort a
unfolding sort
sort_is maximum = refl
sort_is minimum = refl
sort_is null_count = refl
sort_is sum = refl
sort_is (bounded_maximum n) = refl
sort_is (bounded_minimum n) = refl
sort_is (bloom n) = refl

no_options : (a : Aggregate) → sort a ≡ 0 → option_bytes a ≡ []
unfolding sort
no_options maximum e = refl
no_options minimum e = refl
no_options null_count e = refl
no_options sum e = refl
no_options (bounded_maximum n) e = absurd (omega arith)
no_options (bounded_minimum n) e = absurd (omega arith)
no_options (bloom n) e = absurd (omega arith)

in_range : (n : ℕ) → (nat_lt 0 n && nat_lt n (2 ^ 32)) ≡ true → (0 < n) × (n < 2 ^ 32)
in_range n e = (
  let h = (and_parts (nat_lt 0 n) (nat_lt n (2 ^ 32)) e).0 in grind (arith, nat_tests),
  let h = (and_parts (nat_lt 0 n) (nat_lt n (2 ^ 32)) e).1 in grind (arith, nat_tests),
)

-- a bound's options are no others than these
bounds_only : (a : Aggregate) (options : List ℕ) → sort a ≡ 4 → ((n : ℕ) → 0 < n → n < 2 ^ 32 → to_le_bytes w32 n ≡ options → ⊥)
    → has_options a ≡ true → option_bytes a ≡ options → ⊥
unfolding sort
bounds_only maximum options e h num is = omega arith
bounds_only minimum options e h num is = omega arith
bounds_only null_count options e h num is = omega arith
bounds_only sum options e h num is = omega arith
bounds_only (bounded_maximum n) options e h num is = let r = in_range n num in h n r.0 r.1 is
bounds_only (bounded_minimum n) options e h num is = let r = in_range n num in h n r.0 r.1 is
bounds_only (bloom n) options e h num is = omega arith

filters_only : (a : Aggregate) (options : List ℕ) → sort a ≡ 5 → ((n : ℕ) → 0 < n → n < 2 ^ 32 → option_bytes (bloom n) ≡ options → ⊥)
    → has_options a ≡ true → option_bytes a ≡ options → ⊥
unfolding sort
filters_only maximum options e h num is = omega arith
filters_only minimum options e h num is = omega arith
filters_only null_count options e h num is = omega arith
filters_only sum options e h num is = omega arith
filters_only (bounded_maximum n) options e h num is = omega arith
filters_only (bounded_minimum n) options e h num is = omega arith
filters_only (bloom n) options e h num is = let r = in_range n num in h n r.0 r.1 is

same_sort : (id : List ℕ) (a : Aggregate) → aggregate_id a ≡ id → sort a ≡ sort_named id
same_sort id a e = sym (sort_is a) ∙ ap sort_named e

-- ---- what from_spec answers

pub plain_named : (f : AggregateFn) (id options : List ℕ) (r : Result AggregateFn SpecError) → id ≡ aggregate_id (aggregate f)
    → sort_named (aggregate_id (aggregate f)) ≡ 0 → option_bytes (aggregate f) ≡ []
    → MatchResult r (λ a. (a ≡ f) × (options ≡ [])) (λ e. (e ≡ Options) × (options ≡ [] → ⊥)) → NamesAggregate id options r
plain_named f id options (Ok g) i z o h = (ap (λ x. aggregate_id (aggregate x)) h.0 ∙ sym i, ap (λ x. option_bytes (aggregate x)) h.0 ∙ o ∙ sym h.1)
plain_named f id options (Err Options) i z o h =
    ((aggregate f, sym i), λ a num e q. h.1 (sym q ∙ no_options a (same_sort id a e ∙ ap sort_named i ∙ z)))
plain_named f id options (Err UnknownAggregate) i z o h = absurd (cc h.0)

pub bound_refused : (f : Aggregate) (id options : List ℕ) → aggregate_id f ≡ id → sort_named (aggregate_id f) ≡ 4
    → ((n : ℕ) → 0 < n → n < 2 ^ 32 → to_le_bytes w32 n ≡ options → ⊥) → NamesAggregate id options (Err Options)
bound_refused f id options i z h = ((f, i), λ a num e q. bounds_only a options (same_sort id a e ∙ ap sort_named (sym i) ∙ z) h num q)

pub blocks_refused : (f : Aggregate) (id options : List ℕ) → aggregate_id f ≡ id → sort_named (aggregate_id f) ≡ 5
    → ((n : ℕ) → 0 < n → n < 2 ^ 32 → option_bytes (bloom n) ≡ options → ⊥) → NamesAggregate id options (Err Options)
blocks_refused f id options i z h = ((f, i), λ a num e q. filters_only a options (same_sort id a e ∙ ap sort_named (sym i) ∙ z) h num q)

-- ---- filters' options

pub bloom_bytes : (o : BloomOptions) (bytes : List ℕ) → options_bytes o ≡ bytes → option_bytes (bloom (blocks_in o)) ≡ bytes
unfolding number_bytes
bloom_bytes o bytes e = ap (λ h. to_le_bytes w32 (blocks_in o) ++ to_le_bytes w32 h) (sym (hash_number_zero (hash_fn_in o))) ∙ e

pub no_blocks : (bytes : List ℕ) (e : OptionsError) → ReadsOptions bytes (Err e) → (n : ℕ) → 0 < n → n < 2 ^ 32 → option_bytes (bloom n) ≡ bytes → ⊥
unfolding number_bytes
no_blocks bytes errors.Length h n pos low is = h (sym (ap length is))
no_blocks bytes (errors.UnknownHash m) h n pos low is = h.2 (sym h.1 ∙ (reads_two bytes n 0 low (omega arith) is).second)
no_blocks bytes errors.ZeroBlocks h n pos low is = let z : n ≡ 0 = sym (reads_two bytes n 0 low (omega arith) is).first ∙ h.2 in omega arith

pub ruleset blocks_rules = (bloom_bytes, no_blocks)
