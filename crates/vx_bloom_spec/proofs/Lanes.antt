-- The OR of blocks.
use Rattle.std.proofs.Common.{◌≡◌, ℕ, ◌==◌, max, true, eq-eqb, List, [], ◌∷◌, ◌++◌, refl, sym, ap, ◌∙◌, slice_index, arith}
use Rattle.std.specs.Prelude.{bit_or, bit_and}
use Rattle.std.specs.Int.{bit_at}
use Rattle.std.specs.Int.Bits.{or_zero_l, or_zero_r, or_comm, or_self}
use Rattle.std.proofs.lemmas.Nat.Bits.{bit_at_or, bit_at_and, same_from_bits}
use Rattle.vx_bloom_spec.specs.Blocks.{Block, eight, no_lanes, or_lanes, mask, covers}
use Rattle.vx_bloom_spec.specs.Filter.{or_all}

or_assoc : (a b c : ℕ) → bit_or (bit_or a b) c ≡ bit_or a (bit_or b c)
or_assoc a b c = same_from_bits (bit_or (bit_or a b) c) (bit_or a (bit_or b c)) (λ i.
    rw (bit_at_or (bit_or a b) c i, bit_at_or a b i, bit_at_or a (bit_or b c) i, bit_at_or b c i) (omega arith))

-- what an OR takes in without a change, it has
and_from_or : (x m : ℕ) → bit_or m x ≡ x → bit_and x m ≡ m
and_from_or x m e = same_from_bits (bit_and x m) m (λ i.
    let bits : max (bit_at m i) (bit_at x i) ≡ bit_at x i = sym (bit_at_or m x i) ∙ ap (λ n. bit_at n i) e in
    rw (bit_at_and x m i) (omega arith))

-- two blocks of eight lanes, lane by lane
eight_same : (f g : ℕ → ℕ) → ((i : ℕ) → f i ≡ g i) → eight f ≡ eight g
eight_same f g h = rw (h 0, h 1, h 2, h 3, h 4, h 5, h 6, h 7) refl

pub or_lanes_assoc : (a b c : Block) → or_lanes (or_lanes a b) c ≡ or_lanes a (or_lanes b c)
unfolding or_lanes
or_lanes_assoc a b c = eight_same
    (λ i. bit_or (bit_or (slice_index a i) (slice_index b i)) (slice_index c i))
    (λ i. bit_or (slice_index a i) (bit_or (slice_index b i) (slice_index c i)))
    (λ i. or_assoc (slice_index a i) (slice_index b i) (slice_index c i))

pub or_lanes_comm : (a b : Block) → or_lanes a b ≡ or_lanes b a
unfolding or_lanes
or_lanes_comm a b = eight_same
    (λ i. bit_or (slice_index a i) (slice_index b i))
    (λ i. bit_or (slice_index b i) (slice_index a i))
    (λ i. or_comm (slice_index a i) (slice_index b i))

-- to lay a block over another twice is to lay it over once
pub or_lanes_twice : (a b : Block) → or_lanes a (or_lanes a b) ≡ or_lanes a b
unfolding or_lanes
or_lanes_twice a b = eight_same
    (λ i. bit_or (slice_index a i) (bit_or (slice_index a i) (slice_index b i)))
    (λ i. bit_or (slice_index a i) (slice_index b i))
    (λ i. sym (or_assoc (slice_index a i) (slice_index a i) (slice_index b i))
    ∙ ap (λ n. bit_or n (slice_index b i)) (or_self (slice_index a i)))

pub or_all_none : (xs : List Block) → or_lanes no_lanes (or_all xs) ≡ or_all xs
unfolding or_lanes no_lanes or_all
or_all_none [] = refl
or_all_none (x ∷ xs) = eight_same
    (λ i. bit_or 0 (bit_or (slice_index x i) (slice_index (or_all xs) i)))
    (λ i. bit_or (slice_index x i) (slice_index (or_all xs) i))
    (λ i. or_zero_l (bit_or (slice_index x i) (slice_index (or_all xs) i)))

pub or_all-append : (xs ys : List Block) → or_all (xs ++ ys) ≡ or_lanes (or_all xs) (or_all ys)
unfolding or_all
or_all-append [] ys = sym (or_all_none ys)
or_all-append (x ∷ xs) ys = ap (or_lanes x) (or_all-append xs ys) ∙ sym (or_lanes_assoc x (or_all xs) (or_all ys))

pub or_all_one : (hash : ℕ) → or_all (mask hash ∷ []) ≡ mask hash
unfolding or_all or_lanes no_lanes mask
or_all_one hash = eight_same
    (λ i. bit_or (slice_index (mask hash) i) 0)
    (λ i. slice_index (mask hash) i)
    (λ i. or_zero_r (slice_index (mask hash) i))

-- a block that takes a mask in without a change has it
pub covers_absorbed : (x m : Block) → or_lanes m x ≡ x → covers x m ≡ true
unfolding or_lanes covers
covers_absorbed x m e =
    let lane : (i : ℕ) → slice_index (or_lanes m x) i ≡ bit_or (slice_index m i) (slice_index x i)
    → (bit_and (slice_index x i) (slice_index m i) == slice_index m i) ≡ true
    = λ i is. eq-eqb (bit_and (slice_index x i) (slice_index m i)) (slice_index m i)
    (and_from_or (slice_index x i) (slice_index m i) (sym is ∙ ap (λ (b : Block). slice_index b i) e)) in
    rw (lane 0 refl, lane 1 refl, lane 2 refl, lane 3 refl, lane 4 refl, lane 5 refl, lane 6 refl, lane 7 refl) refl
