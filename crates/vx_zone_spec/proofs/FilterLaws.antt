-- Filters contain the values of their zone, also as they are stored.
use Rattle.std.proofs.Common.{◌≡◌, ℕ, zero, suc, ◌+◌, ◌*◌, ◌/◌, ◌<◌, ◌≤◌, ◌-◌, ◌^◌, ◌&&◌, Bool, true, false, not, List, [], ◌∷◌, ◌++◌, length, Some, refl, sym, ap, ◌∙◌, subst, inl, inr, ⊎_elim, arith, length-append, ◌%◌, get_or, map, slice_index}
use Rattle.std.specs.Prelude.{◌==◌, filter, bit_or}
use Rattle.std.specs.Option.{option_to_list}
use Rattle.std.proofs.lemmas.Bool.{true≢false, cases_lt, and_parts}
use Rattle.std.proofs.Math.Nat.{div-lt_iff_lt-mul, mul-le-mul_left}
use Rattle.vx_model.specs.Ty.{Ty, has_order}
use Rattle.vx_model.specs.ValueData.{ValueData, null_value}
use Rattle.vx_path.specs.Lists.{In}
use Rattle.vx_path.proofs.Lists.{in_left, in_right, in_contains}
use Rattle.vx_bloom_spec.specs.Values.{value_hash, value_hashes, may_contain_hash}
use Rattle.vx_bloom_spec.specs.Filter.{filter_of, block_of, or_all, masks_in}
use Rattle.vx_bloom_spec.proofs.Filters.{contains_inserted, length-filter_of}
use Rattle.std.specs.List.{flat_map, range_with_len}
use Rattle.std.proofs.Math.ListN.{get_or-eq_default}
use Rattle.std.proofs.lemmas.List.Elements.{All-head, All-tail, All-nil, All-cons, All-from_recursion}
use Rattle.std.proofs.lemmas.Nat.{or_of_32}
use Rattle.std.proofs.Math.Pow.{pow-lt}
use Rattle.std.proofs.lemmas.Bool.Decides.{nat_tests}
use Rattle.vx_bloom_spec.specs.Blocks.{Block, eight, salts, chosen_bit, mask, no_lanes, or_lanes}
use Rattle.vx_bloom_spec.specs.Bytes.{number_bytes, block_bytes, filter_bytes, block_at, filter_at, IsBlock, AreBlocks, IsFilterLength}
use Rattle.vx_bloom_spec.proofs.ReadBack.{AreBytes, length-number_bytes, same_filter_bytes, BlocksOf, blocks_begin, blocks_more, all_read, all_spelled}
use Rattle.vx_zone_spec.specs.Pruning.{is_filter_length, bytes_lack}
use Rattle.vx_zone_spec.specs.Statements.{AllValues, SmallHash, FilterContains, StoresFilter, StoredFilterContains}
use Rattle.vx_zone_spec.proofs.Sorts.{value_hashed, value_in}

hash_in : (hash : List ℕ → ℕ) (t : Ty) (vs : List ValueData) (v : ValueData) (h : ℕ) → In v vs → value_hash hash t v ≡ Some h → In h (value_hashes hash t vs)
hash_in hash t [] v h i e = absurd i
hash_in hash t (w ∷ vs) v h i e = ⊎_elim
    (λ s. in_left h (option_to_list (value_hash hash t w)) (value_hashes hash t vs) (subst (λ z. In h (option_to_list z)) (sym e ∙ ap (value_hash hash t) s) (inl refl)))
    (λ j. in_right h (option_to_list (value_hash hash t w)) (value_hashes hash t vs) (hash_in hash t vs v h j e)) i

block_low : (blocks h : ℕ) → h < 2 ^ 64 → 0 < blocks → block_of blocks h < blocks
block_low blocks h small some =
    let q : h / 2 ^ 32 < 2 ^ 32 = omega arith in
    (div-lt_iff_lt-mul {k = 2 ^ 32} {x = h / 2 ^ 32 * blocks} {y = blocks} (omega arith)).1 (times (h / 2 ^ 32) blocks q some)
  where
    times : (a b : ℕ) → a < 2 ^ 32 → 0 < b → a * b < b * 2 ^ 32
    times a b l m = omega (arith, mul-le-mul_left b (let k : a ≤ 2 ^ 32 - 1 = omega arith in k))

pub filter_contains : FilterContains
filter_contains hash t blocks vs v h i e small some =
    ap (may_contain_hash (filter_of blocks (value_hashes hash t vs))) e
    ∙ contains_inserted blocks (value_hashes hash t vs) h (block_low blocks h small some) (in_contains h (value_hashes hash t vs) (hash_in hash t vs v h i e))

-- ---- the bytes of a filter

-- numbers below 256
abbrev Low : List ℕ → Type 0
Low [] = Unit {0}
Low (x ∷ xs) = (x < 256) × Low xs

low_append : (xs ys : List ℕ) → Low xs → Low ys → Low (xs ++ ys)
low_append [] ys g h = h
low_append (x ∷ xs) ys g h = (g.0, low_append xs ys g.1 h)

low_number : (n : ℕ) → Low (number_bytes n)
unfolding number_bytes
low_number n = (omega arith, (omega arith, (omega arith, (omega arith, tt))))

low_numbers : (xs : List ℕ) → Low (flat_map number_bytes xs)
low_numbers [] = tt
low_numbers (x ∷ xs) = low_append (number_bytes x) (flat_map number_bytes xs) (low_number x) (low_numbers xs)

low_filter : (p : List Block) → Low (filter_bytes p)
unfolding filter_bytes block_bytes
low_filter [] = tt
low_filter (b ∷ bs) = low_append (block_bytes b) (filter_bytes bs) (low_numbers b) (low_filter bs)

low_each : (xs : List ℕ) → Low xs → (i : ℕ) → get_or xs i 0 < 256
low_each [] l i = omega arith
low_each (x ∷ xs) l zero = l.0
low_each (x ∷ xs) l (suc i) = low_each xs l.1 i

are_bytes : (p : List Block) → AreBytes (filter_bytes p)
are_bytes p = record { each = low_each (filter_bytes p) (low_filter p) }

-- ---- the blocks of a filter

eight_is : (f : ℕ → ℕ) → ((i : ℕ) → f i < 2 ^ 32) → IsBlock (eight f)
eight_is f h = record {
  eight = refl;
  fits = All-from_recursion (λ lane. lane < 2 ^ 32) (eight f) (h 0, (h 1, (h 2, (h 3, (h 4, (h 5, (h 6, (h 7, tt))))))));
}

lane_fits : (b : Block) → IsBlock b → (i : ℕ) → slice_index b i < 2 ^ 32
lane_fits b is i =
    elim (cases_lt i (length b)) [
      | inl low ↦ is.fits i 0 low
      | inr high ↦ rw (get_or-eq_default b 0 high) (omega arith)
    ]

bit_fits : (hash salt : ℕ) → chosen_bit hash salt < 2 ^ 32
unfolding chosen_bit
bit_fits hash salt = pow-lt (shifted (hash % 2 ^ 32 * salt))
  where
    shifted : (n : ℕ) → n % 2 ^ 32 / 2 ^ 27 < 32
    shifted n = omega arith

mask_is : (hash : ℕ) → IsBlock (mask hash)
unfolding mask
mask_is hash = eight_is (λ i. chosen_bit hash (slice_index salts i)) (λ i. bit_fits hash (slice_index salts i))

or_is : (hashes : List ℕ) → IsBlock (or_all (map mask hashes))
unfolding or_all no_lanes or_lanes
or_is [] = eight_is (λ _. 0) (λ i. omega arith)
or_is (h ∷ hashes) =
    eight_is (λ i. bit_or (slice_index (mask h) i) (slice_index (or_all (map mask hashes)) i))
    (λ i. or_of_32 (slice_index (mask h) i) (slice_index (or_all (map mask hashes)) i) (lane_fits (mask h) (mask_is h) i) (lane_fits (or_all (map mask hashes)) (or_is hashes) i))

places_are : (blocks : ℕ) (hashes places : List ℕ) → AreBlocks (map (λ place. or_all (masks_in blocks hashes place)) places)
places_are blocks hashes [] = All-nil IsBlock
places_are blocks hashes (place ∷ places) =
    All-cons IsBlock (or_all (masks_in blocks hashes place)) (map (λ place. or_all (masks_in blocks hashes place)) places)
    (or_is (filter (λ hash. block_of blocks hash == place) hashes)) (places_are blocks hashes places)

filter_is : (blocks : ℕ) (hashes : List ℕ) → AreBlocks (filter_of blocks hashes)
unfolding filter_of
filter_is blocks hashes = places_are blocks hashes (range_with_len 0 blocks)

-- ---- lengths

numbers_length : (xs : List ℕ) → length (flat_map number_bytes xs) ≡ 4 * length xs
numbers_length [] = refl
numbers_length (x ∷ xs) = rw (length-append (number_bytes x) (flat_map number_bytes xs), length-number_bytes x, numbers_length xs) (omega arith)

filter_length : (p : List Block) → AreBlocks p → length (filter_bytes p) ≡ 32 * length p
unfolding filter_bytes block_bytes
filter_length [] are = refl
filter_length (b ∷ bs) are =
    let e : length (flat_map number_bytes b) ≡ 4 * length b = numbers_length b in
    let l : length b ≡ 8 = (All-head IsBlock b bs are).eight in
    let r : length (filter_bytes bs) ≡ 32 * length bs = filter_length bs (All-tail IsBlock b bs are) in
    rw (length-append (block_bytes b) (flat_map block_bytes bs)) (omega (arith, e, l, r))

-- ---- read back

first_blocks : (bytes : List ℕ) → AreBytes bytes → (count : ℕ) → 32 * count ≤ length bytes → (bs : List Block) × BlocksOf bytes count bs
first_blocks bytes are zero within = ([], blocks_begin bytes)
first_blocks bytes are (suc count) within =
    let r : (bs : List Block) × BlocksOf bytes count bs = first_blocks bytes are count (omega arith) in
    let one : count + 1 ≡ suc count = omega arith in
    (r.0 ++ block_at bytes (32 * count) ∷ [], subst (λ n. BlocksOf bytes n (r.0 ++ block_at bytes (32 * count) ∷ [])) one (blocks_more bytes count r.0 are (omega arith) r.1))

read_back : (p : List Block) → AreBlocks p → filter_at (filter_bytes p) ≡ p
read_back p are =
    let many : length (filter_bytes p) ≡ 32 * length p = filter_length p are in
    let r : (bs : List Block) × BlocksOf (filter_bytes p) (length p) bs = first_blocks (filter_bytes p) (are_bytes p) (length p) (omega arith) in
    sym (all_spelled (filter_bytes p) (length p) r.0 many r.1)
    ∙ same_filter_bytes r.0 p r.1.sound are (all_read (filter_bytes p) (length p) r.0 many r.1)

stored_length : (blocks : ℕ) (hashes : List ℕ) → length (filter_bytes (filter_of blocks hashes)) ≡ 32 * blocks
stored_length blocks hashes = filter_length (filter_of blocks hashes) (filter_is blocks hashes) ∙ ap (λ n. 32 * n) (length-filter_of blocks hashes)

is_length : (n blocks : ℕ) → n ≡ 32 * blocks → 0 < blocks → blocks < 2 ^ 32 → IsFilterLength n
is_length n blocks e some few = record { whole = omega arith; some = omega arith; few = omega arith }

contained : (hash : List ℕ → ℕ) (t : Ty) (blocks : ℕ) (vs : List ValueData) → SmallHash hash → has_order t ≡ true → AllValues t vs → 0 < blocks → (v : ValueData) → In v vs → (v ≡ null_value → ⊥)
    → may_contain_hash (filter_at (filter_bytes (filter_of blocks (value_hashes hash t vs)))) (value_hash hash t v) ≡ true
contained hash t blocks vs small o all some v i n =
    let h : (b : List ℕ) × (value_hash hash t v ≡ Some (hash b)) = value_hashed hash t v o (value_in t vs v all i) n in
    ap (λ z. may_contain_hash z (value_hash hash t v)) (read_back (filter_of blocks (value_hashes hash t vs)) (filter_is blocks (value_hashes hash t vs)))
    ∙ filter_contains hash t blocks vs v (hash h.0) i h.1 (small h.0) some

pub stored_filter_contains : StoredFilterContains
stored_filter_contains hash t blocks vs stored small o all some few e =
    let same : stored ≡ filter_bytes (filter_of blocks (value_hashes hash t vs)) = cc in
    subst (StoresFilter hash t blocks vs) (sym same) (record {
      whole = is_length (length (filter_bytes (filter_of blocks (value_hashes hash t vs)))) blocks (stored_length blocks (value_hashes hash t vs)) some few;
      read = read_back (filter_of blocks (value_hashes hash t vs)) (filter_is blocks (value_hashes hash t vs));
      contains = λ v i n. contained hash t blocks vs small o all some v i n;
    })

-- ---- what a stored filter excludes

some_blocks : (n blocks : ℕ) → n ≡ 32 * blocks → is_filter_length n ≡ true → 0 < blocks
some_blocks n blocks e h = grind (arith, nat_tests)

not_both : (b : Bool) → not b ≡ true → b ≡ true → ⊥
not_both true h e = true≢false (sym h)
not_both false h e = true≢false (sym e)

-- a zone's own filter excludes none of its values
pub stored_contains : (hash : List ℕ → ℕ) (t : Ty) (blocks : ℕ) (vs : List ValueData) (v : ValueData) → SmallHash hash → has_order t ≡ true → AllValues t vs → In v vs → (v ≡ null_value → ⊥)
    → bytes_lack hash t v (filter_bytes (filter_of blocks (value_hashes hash t vs))) ≡ true → ⊥
stored_contains hash t blocks vs v small o all i n h =
    let bytes : List ℕ = filter_bytes (filter_of blocks (value_hashes hash t vs)) in
    not_both (may_contain_hash (filter_at bytes) (value_hash hash t v)) (and_parts (is_filter_length (length bytes)) _ h).1
    (contained hash t blocks vs small o all
    (some_blocks (length bytes) blocks (stored_length blocks (value_hashes hash t vs)) (and_parts (is_filter_length (length bytes)) _ h).0) v i n)
