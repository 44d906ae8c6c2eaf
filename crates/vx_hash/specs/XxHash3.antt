-- The hash of a list of bytes, by its length.
use Rattle.std.specs.Prelude.{ℕ, zero, suc, ◌+◌, ◌-◌, ◌*◌, ◌/◌, ◌^◌, nat_lt, List, [], ◌∷◌, length, slice_index, bit_xor, if◌then◌else◌}
use Rattle.std.specs.Int.{w32, w64, from_le_bytes, rotate_left, swap_bytes}
use Rattle.vx_hash.specs.Words.{add, mul, add_each, word, half, joined, xorshift, fold, half_product, half_prime_1, half_prime_2, half_prime_3, prime_1, prime_2, prime_3, prime_4, prime_5, mixing_prime_2, key, avalanche, avalanche_short}

-- ---- up to 16 bytes

unfoldable pub hash_of_none : ℕ
hash_of_none = avalanche (bit_xor (word key 56) (word key 64))

-- 1 to 3 bytes: the last one, their number, the first and the middle one make a half, low byte first
unfoldable pub hash_to_3 : List ℕ → ℕ
hash_to_3 b =
    let n = length b in
    let bytes = slice_index b (n - 1) ∷ n ∷ slice_index b 0 ∷ slice_index b (n / 2) ∷ [] in
    avalanche (bit_xor (from_le_bytes w32 bytes) (bit_xor (half key 0) (half key 4)))

-- 4 to 8 bytes
unfoldable pub hash_to_8 : List ℕ → ℕ
hash_to_8 b =
    let n = length b in
    let x = bit_xor (joined (half b (n - 4)) (half b 0)) (bit_xor (word key 8) (word key 16)) in
    let turned = bit_xor x (bit_xor (rotate_left w64 x 49) (rotate_left w64 x 24)) in
    let first = mul turned mixing_prime_2 in
    xorshift (mul (bit_xor first (add (first / 2 ^ 35) n)) mixing_prime_2) 28

-- 9 to 16 bytes
unfoldable pub hash_to_16 : List ℕ → ℕ
hash_to_16 b =
    let n = length b in
    let first = bit_xor (word b 0) (bit_xor (word key 24) (word key 32)) in
    let last = bit_xor (word b (n - 8)) (bit_xor (word key 40) (word key 48)) in
    avalanche_short (add (add (add n (swap_bytes w64 first)) last) (fold first last))

-- ---- 17 to 240 bytes

-- sixteen bytes from place i with sixteen of the key from place k
unfoldable pub mix : List ℕ → ℕ → ℕ → ℕ
mix b i k = fold (bit_xor (word b i) (word key k)) (bit_xor (word b (i + 8)) (word key (k + 8)))

-- pair p of sixteen bytes: p pairs lie before the one and behind the other
unfoldable pub mix_pair : List ℕ → ℕ → ℕ
mix_pair b p = add (mix b (16 * p) (32 * p)) (mix b (length b - 16 * (p + 1)) (32 * p + 16))

-- 17 to 128 bytes: one pair, and one more above 32, above 64 and above 96 bytes
unfoldable pub hash_to_128 : List ℕ → ℕ
hash_to_128 b =
    let n = length b in
    avalanche_short (add_each (mul n prime_1) (mix_pair b) ((n - 1) / 32 + 1))

-- 129 to 240 bytes: eight times sixteen bytes, then what else is whole, then the last sixteen
unfoldable pub hash_to_240 : List ℕ → ℕ
hash_to_240 b =
    let n = length b in
    let first = avalanche_short (add_each (mul n prime_1) (λ i. mix b (16 * i) (16 * i)) 8) in
    let whole = add_each first (λ i. mix b (16 * (8 + i)) (16 * i + 3)) (n / 16 - 8) in
    avalanche_short (add whole (mix b (n - 16) 119))

-- ---- above 240 bytes: eight lanes that take in stripes of 64 bytes, a word a lane

abbrev pub first_lanes : List ℕ
first_lanes = half_prime_3 ∷ prime_1 ∷ prime_2 ∷ prime_3 ∷ prime_4 ∷ half_prime_2 ∷ prime_5 ∷ half_prime_1 ∷ []

-- lane j after the stripe from place i, with the key from place k: its neighbour's word is added,
-- and the product of the halves of its own word under the key
unfoldable pub lane_after : List ℕ → List ℕ → ℕ → ℕ → ℕ → ℕ → ℕ
lane_after lanes b i k j neighbour =
    add (add (slice_index lanes j) (word b (i + 8 * neighbour)))
    (half_product (bit_xor (word b (i + 8 * j)) (word key (k + 8 * j))))

-- the lanes after that stripe; neighbours are 0 and 1, 2 and 3, 4 and 5, 6 and 7
unfoldable pub after_stripe : List ℕ → List ℕ → ℕ → ℕ → List ℕ
after_stripe lanes b i k =
    let lane = lane_after lanes b i k in
    lane 0 1 ∷ lane 1 0 ∷ lane 2 3 ∷ lane 3 2 ∷ lane 4 5 ∷ lane 5 4 ∷ lane 6 7 ∷ lane 7 6 ∷ []

-- the lanes after the stripes from place i, the key moving on by eight bytes a stripe
unfoldable pub after_stripes : List ℕ → List ℕ → ℕ → ℕ → List ℕ
after_stripes lanes b i zero = lanes
after_stripes lanes b i (suc count) = after_stripe (after_stripes lanes b i count) b (i + 64 * count) (8 * count)

-- lane j scrambled, and all of them
unfoldable pub scrambled_lane : List ℕ → ℕ → ℕ
scrambled_lane lanes j = mul (bit_xor (xorshift (slice_index lanes j) 47) (word key (128 + 8 * j))) half_prime_1

unfoldable pub scrambled : List ℕ → List ℕ
scrambled lanes =
    let lane = scrambled_lane lanes in
    lane 0 ∷ lane 1 ∷ lane 2 ∷ lane 3 ∷ lane 4 ∷ lane 5 ∷ lane 6 ∷ lane 7 ∷ []

-- the lanes after whole blocks of sixteen stripes, scrambled after each block
unfoldable pub after_blocks : List ℕ → ℕ → List ℕ
after_blocks b zero = first_lanes
after_blocks b (suc count) = scrambled (after_stripes (after_blocks b count) b (1024 * count) 16)

-- the lanes after all bytes: whole blocks, the whole stripes that then begin before the last byte's
-- stripe ends, and the last 64 bytes
unfoldable pub after_all : List ℕ → List ℕ
after_all b =
    let n = length b in
    let blocks = (n - 1) / 1024 in
    let stripes = (n - 1 - 1024 * blocks) / 64 in
    after_stripe (after_stripes (after_blocks b blocks) b (1024 * blocks) stripes) b (n - 64) 121

-- lanes 2 j and 2 j + 1 under the key, folded
unfoldable pub folded_lanes : List ℕ → ℕ → ℕ
folded_lanes lanes j =
    fold (bit_xor (slice_index lanes (2 * j)) (word key (11 + 16 * j)))
    (bit_xor (slice_index lanes (2 * j + 1)) (word key (19 + 16 * j)))

unfoldable pub hash_above_240 : List ℕ → ℕ
hash_above_240 b = avalanche_short (add_each (mul (length b) prime_1) (folded_lanes (after_all b)) 4)

-- ---- every length

unfoldable pub xxhash3_64 : List ℕ → ℕ
xxhash3_64 b =
    let n = length b in
    if nat_lt n 1 then hash_of_none
    else if nat_lt n 4 then hash_to_3 b
    else if nat_lt n 9 then hash_to_8 b
    else if nat_lt n 17 then hash_to_16 b
    else if nat_lt n 129 then hash_to_128 b
    else if nat_lt n 241 then hash_to_240 b
    else hash_above_240 b
