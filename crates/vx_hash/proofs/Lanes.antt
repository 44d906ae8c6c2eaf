-- Eight words as one vector, and what its operations give lane by lane.
use Rattle.std.proofs.Common.{◌≡◌, ℕ, zero, suc, ◌+◌, ◌-◌, ◌*◌, ◌/◌, ◌%◌, ◌^◌, ◌<◌, ◌≤◌, List, [], ◌∷◌, ◌++◌, length, get_or, take, drop, map, replicate, refl, sym, ap, ◌∙◌, arith, w64, Fits}
use Rattle.std.specs.Prelude.{slice_index, bit_xor, bit_and}
use Rattle.std.specs.Int.{from_le_bytes}
use lib.Lanes.{zip2, Each1, chunk, pick_l, number_l, digits_l}
use Rattle.std.proofs.lemmas.List.{take-take, drop-drop, drop-take}
use Rattle.std.proofs.lemmas.Nat.{and_mask, shr_below}
use Rattle.std.proofs.lemmas.Simd.{pick_l_whole, get_or_wider, length-chunk}
use Rattle.std.proofs.Math.Nat.{mul-le-mul_left}
use Rattle.vx_hash.specs.Words.{word, half_product, xorshift, key, half_prime_1}
use Rattle.vx_hash.specs.Lanes.{words}
use Rattle.vx_hash.specs.XxHash3.{lane_after, after_stripe, scrambled_lane, scrambled}

-- a list of eight, place by place
eight_listed : (xs : List ℕ) → length xs ≡ 8
    → xs ≡ slice_index xs 0 ∷ slice_index xs 1 ∷ slice_index xs 2 ∷ slice_index xs 3 ∷ slice_index xs 4 ∷ slice_index xs 5 ∷ slice_index xs 6 ∷ slice_index xs 7 ∷ []
eight_listed xs e = sym (pick_l_whole 0 xs 8 e)

-- ---- reading words

number_of_bytes : (a b c d e f g h : ℕ)
    → number_l 256 (a ∷ b ∷ c ∷ d ∷ e ∷ f ∷ g ∷ h ∷ []) ≡ from_le_bytes w64 (a ∷ b ∷ c ∷ d ∷ e ∷ f ∷ g ∷ h ∷ [])
number_of_bytes a b c d e f g h = omega arith

number_of_eight : (xs : List ℕ) → length xs ≡ 8 → number_l 256 xs ≡ from_le_bytes w64 xs
number_of_eight xs e =
    ap (number_l 256) (eight_listed xs e)
    ∙ number_of_bytes (slice_index xs 0) (slice_index xs 1) (slice_index xs 2) (slice_index xs 3) (slice_index xs 4) (slice_index xs 5) (slice_index xs 6) (slice_index xs 7)

-- eight bytes of a stripe
chunk_of_chunk : (b : List ℕ) (at k m : ℕ) → k + m ≡ 64 → 8 ≤ m → chunk k 8 (chunk at 64 b) ≡ chunk (at + k) 8 b
chunk_of_chunk b at k m whole room =
    ap (λ (n : ℕ). take 8 (drop k (take n (drop at b)))) (sym whole)
    ∙ ap (λ (xs : List ℕ). take 8 xs) (drop-take k m (drop at b))
    ∙ take-take 8 m (drop k (drop at b)) room
    ∙ ap (λ (xs : List ℕ). take 8 xs) (drop-drop k at b)

word_of_stripe : (b : List ℕ) (at j : ℕ) → Each1 (λ x. x < 256) (chunk at 64 b) → at + 64 ≤ length b → j < 8
    → get_or (digits_l (2 ^ 64) 8 (number_l 256 (chunk at 64 b))) j 0 ≡ word b (at + 8 * j)
unfolding word
word_of_stripe b at j fits within low =
    get_or_wider 256 8 (2 ^ 64) 8 (chunk at 64 b) j refl fits low
    ∙ ap (number_l 256) (chunk_of_chunk b at (8 * j) (64 - 8 * j) (omega arith) (omega arith))
    ∙ number_of_eight (chunk (at + 8 * j) 8 b) (length-chunk (at + 8 * j) 8 b (omega arith))

pub words_read : (b : List ℕ) (at : ℕ) → Each1 (λ x. x < 256) (chunk at 64 b) → at + 64 ≤ length b
    → digits_l (2 ^ 64) 8 (number_l 256 (chunk at 64 b)) ≡ words b at
unfolding words
words_read b at fits within =
    let e : (j : ℕ) → j < 8 → get_or (digits_l (2 ^ 64) 8 (number_l 256 (chunk at 64 b))) j 0 ≡ word b (at + 8 * j)
    = λ j low. word_of_stripe b at j fits within low in
    λ i. e 0 (omega arith) i ∷ e 1 (omega arith) i ∷ e 2 (omega arith) i ∷ e 3 (omega arith) i ∷ e 4 (omega arith) i ∷ e 5 (omega arith) i ∷ e 6 (omega arith) i ∷ e 7 (omega arith) i ∷ []

-- ---- products of halves

abbrev sum : ℕ → ℕ → ℕ
sum a b = (a + b) % 2 ^ 64

abbrev product : ℕ → ℕ → ℕ
product a b = a * b % 2 ^ 64

abbrev shifted : ℕ → ℕ → ℕ
shifted a b = a / 2 ^ b

half_product_fits : (x : ℕ) → x < 2 ^ 64 → x % 2 ^ 32 * (x / 2 ^ 32) < 2 ^ 64
half_product_fits x low =
    let high : x / 2 ^ 32 < 2 ^ 32 = shr_below x 32 32 low in
    let most : x / 2 ^ 32 ≤ 2 ^ 32 - 1 = omega arith in
    omega (arith, mul-le-mul_left (x % 2 ^ 32) most)

half_product_of : (x : ℕ) → x < 2 ^ 64 → product (bit_and x (2 ^ 32 - 1)) (shifted x 32) ≡ half_product x
unfolding half_product
half_product_of x low =
    ap (λ (n : ℕ). n * (x / 2 ^ 32) % 2 ^ 64) (and_mask x 32) ∙ (let fits = half_product_fits x low in omega arith)

pub half_products_of : (n : ℕ) (xs : List ℕ) → length xs ≡ n → Each1 (Fits w64) xs
    → zip2 product (zip2 bit_and xs (replicate n 4294967295)) (zip2 shifted xs (replicate n 32)) ≡ map half_product xs
half_products_of zero [] e fits = refl
half_products_of zero (x ∷ xs) e fits = absurd (omega arith)
half_products_of (suc n) [] e fits = absurd (omega arith)
half_products_of (suc n) (x ∷ xs) e fits =
    λ i. half_product_of x fits.0.fits i ∷ half_products_of n xs (omega arith) fits.1 i

-- ---- a stripe, and what follows a block

pub stripe_of : (lanes b : List ℕ) (at k : ℕ) → length lanes ≡ 8
    → zip2 sum
    (zip2 sum lanes (pick_l 0 (words b at ++ words b at) (1 ∷ 0 ∷ 3 ∷ 2 ∷ 5 ∷ 4 ∷ 7 ∷ 6 ∷ [])))
    (map half_product (zip2 bit_xor (words b at) (words key k)))
    ≡ after_stripe lanes b at k
unfolding words lane_after after_stripe
stripe_of lanes b at k e =
    ap (λ (xs : List ℕ). zip2 sum
    (zip2 sum xs (pick_l 0 (words b at ++ words b at) (1 ∷ 0 ∷ 3 ∷ 2 ∷ 5 ∷ 4 ∷ 7 ∷ 6 ∷ [])))
    (map half_product (zip2 bit_xor (words b at) (words key k)))) (eight_listed lanes e)

pub scrambled_of : (lanes : List ℕ) → length lanes ≡ 8
    → zip2 product
    (zip2 bit_xor (zip2 bit_xor lanes (zip2 shifted lanes (replicate 8 47))) (words key 128))
    (replicate 8 half_prime_1)
    ≡ scrambled lanes
unfolding words xorshift scrambled_lane scrambled
scrambled_of lanes e =
    ap (λ (xs : List ℕ). zip2 product
    (zip2 bit_xor (zip2 bit_xor xs (zip2 shifted xs (replicate 8 47))) (words key 128))
    (replicate 8 half_prime_1)) (eight_listed lanes e)
