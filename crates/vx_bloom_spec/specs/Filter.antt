-- A filter: a list of blocks. A hash sets its mask in one of them.
use Rattle.std.specs.Prelude.{ℕ, ◌*◌, ◌/◌, ◌^◌, ◌==◌, Bool, List, [], ◌∷◌, length, map, filter, slice_set, slice_index_or, All, Contains}
use Rattle.std.specs.List.{range_with_len}
use Rattle.vx_bloom_spec.specs.Blocks.{Block, mask, no_lanes, or_lanes, covers}

-- the block that a hash falls into, of so many blocks
abbrev pub block_of : ℕ → ℕ → ℕ
block_of blocks hash = hash / 2 ^ 32 * blocks / 2 ^ 32

-- the OR of blocks, lane by lane
unfoldable pub or_all : List Block → Block
or_all [] = no_lanes
or_all (a ∷ others) = or_lanes a (or_all others)

-- the masks of the hashes that fall into a block
abbrev pub masks_in : ℕ → List ℕ → ℕ → List Block
masks_in blocks hashes place = map mask (filter (λ hash. block_of blocks hash == place) hashes)

-- the filter of a list of hashes: each block is the OR of the masks of those that fall into it
unfoldable pub filter_of : ℕ → List ℕ → List Block
filter_of blocks hashes = map (λ place. or_all (masks_in blocks hashes place)) (range_with_len 0 blocks)

-- a filter with one more hash
unfoldable pub inserted : List Block → ℕ → List Block
inserted blocks hash =
    let place = block_of (length blocks) hash in
    slice_set blocks place (or_lanes (slice_index_or blocks place no_lanes) (mask hash))

-- the hash's mask is in its block
unfoldable pub may_contain : List Block → ℕ → Bool
may_contain blocks hash =
    covers (slice_index_or blocks (block_of (length blocks) hash) no_lanes) (mask hash)

-- two filters' OR, block by block
unfoldable pub or_blocks : List Block → List Block → List Block
or_blocks [] ys = []
or_blocks (a ∷ xs) [] = []
or_blocks (a ∷ xs) (b ∷ ys) = or_lanes a b ∷ or_blocks xs ys

-- two lists with the same elements, whatever their order and number
abbrev pub SameElements : List ℕ → List ℕ → Type 0
SameElements xs ys = All (Contains ys) xs × All (Contains xs) ys
