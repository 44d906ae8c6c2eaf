-- A block of a filter: eight lanes, numbers below 2 ^ 32. The mask of a hash has one bit in each lane.
use Rattle.std.specs.Prelude.{ℕ, ◌-◌, ◌*◌, ◌/◌, ◌%◌, ◌^◌, ◌==◌, Bool, ◌&&◌, List, [], ◌∷◌, slice_index, bit_and, bit_or}

abbrev pub Block : Type 0
Block = List ℕ

-- the lanes f 0 to f 7
abbrev pub eight : (ℕ → ℕ) → Block
eight f = f 0 ∷ f 1 ∷ f 2 ∷ f 3 ∷ f 4 ∷ f 5 ∷ f 6 ∷ f 7 ∷ []

-- the test holds at 0 to 7
abbrev pub all_eight : (ℕ → Bool) → Bool
all_eight t = t 0 && t 1 && t 2 && t 3 && t 4 && t 5 && t 6 && t 7

abbrev pub salts : List ℕ
salts = 0x47b6137b ∷ 0x44974d91 ∷ 0x8824ad5b ∷ 0xa2b7289d ∷ 0x705495c7 ∷ 0x2df1424b ∷ 0x9efc4947 ∷ 0x5c6bfb31 ∷ []

-- the bit that the hash's low half and a salt choose: the product's five highest bits of 32
unfoldable pub chosen_bit : ℕ → ℕ → ℕ
chosen_bit hash salt = 2 ^ (hash % 2 ^ 32 * salt % 2 ^ 32 / 2 ^ 27)

-- the mask of a hash
unfoldable pub mask : ℕ → Block
mask hash = eight (λ i. chosen_bit hash (slice_index salts i))

unfoldable pub no_lanes : Block
no_lanes = eight (λ _. 0)

unfoldable pub full_lanes : Block
full_lanes = eight (λ _. 2 ^ 32 - 1)

-- two blocks' OR, lane by lane
unfoldable pub or_lanes : Block → Block → Block
or_lanes a b = eight (λ i. bit_or (slice_index a i) (slice_index b i))

-- each bit of the mask is in the block
unfoldable pub covers : Block → Block → Bool
covers block bits = all_eight (λ i. bit_and (slice_index block i) (slice_index bits i) == slice_index bits i)
