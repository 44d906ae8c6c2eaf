-- Blocks as vectors: what their operations give lane by lane.
use Rattle.std.proofs.Common.{◌≡◌, ◌≢◌, ℕ, zero, suc, ◌+◌, ◌-◌, ◌*◌, ◌/◌, ◌%◌, ◌^◌, ◌<◌, ◌≤◌, Bool, true, false, not, ◌&&◌, cond, eqb, ◌↔◌, List, [], ◌∷◌, length, map, replicate, refl, sym, ap, ◌∙◌, inl, inr, arith, eqb-true, eq-eqb}
use Rattle.std.specs.Prelude.{slice_index, bit_and, bit_or}
use lib.Lanes.{zip2, Each2, mask_l, top, pick_l}
use lib.Pointwise.{pointwise, bytes_decides}
use Rattle.std.proofs.lemmas.Bool.{eqb-false}
use Rattle.std.proofs.lemmas.Bool.Decides.{eqb_tells}
use Rattle.std.proofs.lemmas.List.{length-map}
use Rattle.std.proofs.lemmas.Nat.{pow_below}
use Rattle.std.proofs.lemmas.Simd.{pick_l_whole, length-zip2, mask_l-mod}
use Rattle.vx_bloom_spec.specs.Blocks.{Block, salts, chosen_bit, mask, or_lanes, covers}

-- a block, lane by lane
eight_listed : (block : Block) → length block ≡ 8
    → block ≡ slice_index block 0 ∷ slice_index block 1 ∷ slice_index block 2 ∷ slice_index block 3 ∷ slice_index block 4 ∷ slice_index block 5 ∷ slice_index block 6 ∷ slice_index block 7 ∷ []
eight_listed block e = sym (pick_l_whole 0 block 8 e)

pub or_lanes_of : (a b : Block) → length a ≡ 8 → length b ≡ 8 → zip2 bit_or a b ≡ or_lanes a b
unfolding or_lanes
or_lanes_of a b e e' = λ i. zip2 bit_or (eight_listed a e i) (eight_listed b e' i)

-- ---- masks

abbrev product : ℕ → ℕ → ℕ
product a b = a * b % 2 ^ 32

abbrev shifted : ℕ → ℕ → ℕ
shifted a b = a / 2 ^ b

abbrev raised : ℕ → ℕ → ℕ
raised a b = a * 2 ^ b % 2 ^ 32

-- the bits that a hash's low half chooses, a number a lane
abbrev pub bits_chosen : ℕ → List ℕ
bits_chosen low = zip2 shifted (zip2 product (replicate 8 low) salts) (replicate 8 27)

bit_fits : (n : ℕ) → n % 2 ^ 32 / 2 ^ 27 < 32
bit_fits n = omega arith

pub bits_fit : (low : ℕ) → Each2 (λ (a b : ℕ). b < 32) (replicate 8 1) (bits_chosen low)
bits_fit low = (bit_fits _, (bit_fits _, (bit_fits _, (bit_fits _, (bit_fits _, (bit_fits _, (bit_fits _, (bit_fits _, tt))))))))

one_raised : (n : ℕ) → raised 1 (n % 2 ^ 32 / 2 ^ 27) ≡ 2 ^ (n % 2 ^ 32 / 2 ^ 27)
one_raised n =
    let below : 2 ^ (n % 2 ^ 32 / 2 ^ 27) < 2 ^ 32 = pow_below (n % 2 ^ 32 / 2 ^ 27) 32 (bit_fits n) in
    omega arith

pub mask_of : (hash : ℕ) → zip2 raised (replicate 8 1) (bits_chosen (hash % 2 ^ 32)) ≡ mask hash
unfolding mask chosen_bit
mask_of hash =
    let bit : (k : ℕ) → raised 1 (hash % 2 ^ 32 * slice_index salts k % 2 ^ 32 / 2 ^ 27) ≡ 2 ^ (hash % 2 ^ 32 * slice_index salts k % 2 ^ 32 / 2 ^ 27)
    = λ k. one_raised (hash % 2 ^ 32 * slice_index salts k) in
    λ i. bit 0 i ∷ bit 1 i ∷ bit 2 i ∷ bit 3 i ∷ bit 4 i ∷ bit 5 i ∷ bit 6 i ∷ bit 7 i ∷ []

-- ---- comparisons

abbrev differs : ℕ → ℕ → ℕ
differs a b = cond (not (eqb a b)) (2 ^ 32 - 1) 0

lane_same : (a b : ℕ) → (◌≡◌ {A = ℕ} (cond (top 31 (differs a b)) 1 0) 0) ↔ (a ≡ b)
lane_same a b = go (eqb a b) refl
  where
    go : (t : Bool) → eqb a b ≡ t → (◌≡◌ {A = ℕ} (cond (top 31 (cond (not t) (2 ^ 32 - 1) 0)) 1 0) 0) ↔ (a ≡ b)
    go true e = (λ _. eqb-true a b e, λ _. refl)
    go false e = (λ q. absurd (omega arith), λ same. absurd (eqb-false a b e same))

lanes_same : (xs ys : List ℕ) → length xs ≡ length ys → (mask_l (map (top 31) (zip2 differs xs ys)) ≡ 0) ↔ (xs ≡ ys)
lanes_same [] [] e = (λ _. refl, λ _. refl)
lanes_same [] (y ∷ ys) e = absurd (omega arith)
lanes_same (x ∷ xs) [] e = absurd (omega arith)
lanes_same (x ∷ xs) (y ∷ ys) e =
    let rest = lanes_same xs ys (omega arith) in (
      λ none. λ i. (lane_same x y).0 (omega arith) i ∷ rest.0 (omega arith) i,
      λ same.
          let first : x ≡ y = cc in
          let others : xs ≡ ys = cc in
          omega (arith, (lane_same x y).1 first, rest.1 others),
    )

pub are_same_of : (a b : Block) → length a ≡ 8 → length b ≡ 8
    → eqb (mask_l (map (top 31) (zip2 differs a b)) % 2 ^ 64) 0 ≡ pointwise eqb a b
are_same_of a b e e' =
    let bits = map (top 31) (zip2 differs a b) in
    let same : length a ≡ length b = omega arith in
    let few : length bits ≤ 64 = omega (arith, length-map (zip2 differs a b) (top 31), length-zip2 differs a b same) in
    let told = lanes_same a b same in
    ap (λ (n : ℕ). eqb n 0) (mask_l-mod bits 64 few) ∙ (elim (eqb_tells (mask_l bits) 0) [
      | inl none ↦ none.0 ∙ sym ((bytes_decides a b).1 (told.0 none.1))
      | inr some ↦ some.0 ∙ sym (not_same (pointwise eqb a b) refl (λ are. some.1 (told.1 are)))
    ])
  where
    not_same : (t : Bool) → pointwise eqb a b ≡ t → (a ≢ b) → t ≡ false
    not_same true is apart = absurd (apart ((bytes_decides a b).0 is))
    not_same false is apart = refl

tests_joined : (a b c d e f g h : Bool)
    → (a && (b && (c && (d && (e && (f && (g && (h && true)))))))) ≡ (a && b && c && d && e && f && g && h)
tests_joined false b c d e f g h = refl
tests_joined true false c d e f g h = refl
tests_joined true true false d e f g h = refl
tests_joined true true true false e f g h = refl
tests_joined true true true true false f g h = refl
tests_joined true true true true true false g h = refl
tests_joined true true true true true true false h = refl
tests_joined true true true true true true true false = refl
tests_joined true true true true true true true true = refl

pub covers_of : (block bits : Block) → length block ≡ 8 → length bits ≡ 8 → pointwise eqb (zip2 bit_and block bits) bits ≡ covers block bits
unfolding covers
covers_of block bits e e' =
    let test = λ (k : ℕ). eqb (bit_and (slice_index block k) (slice_index bits k)) (slice_index bits k) in
    (λ i. pointwise eqb (zip2 bit_and (eight_listed block e i) (eight_listed bits e' i)) (eight_listed bits e' i))
    ∙ tests_joined (test 0) (test 1) (test 2) (test 3) (test 4) (test 5) (test 6) (test 7)
