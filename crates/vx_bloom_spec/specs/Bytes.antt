-- The bytes of numbers and filters: each number of 32 bits as four bytes, low byte first.
use Rattle.std.specs.Prelude.{◌≡◌, ℕ, ◌+◌, ◌*◌, ◌/◌, ◌%◌, ◌^◌, ◌<◌, List, length, take, drop, map, All}
use Rattle.std.specs.Int.{w32, from_le_bytes, to_le_bytes}
use Rattle.std.specs.List.{flat_map, range_with_len}
use Rattle.vx_bloom_spec.specs.Blocks.{Block, eight}

unfoldable pub number_bytes : ℕ → List ℕ
number_bytes n = to_le_bytes w32 n

-- the number that the four bytes from place i spell
unfoldable pub number_at : List ℕ → ℕ → ℕ
number_at bytes i = from_le_bytes w32 (take 4 (drop i bytes))

-- lane after lane
unfoldable pub block_bytes : Block → List ℕ
block_bytes block = flat_map number_bytes block

-- block after block
unfoldable pub filter_bytes : List Block → List ℕ
filter_bytes blocks = flat_map block_bytes blocks

-- the block that the 32 bytes from place i spell
unfoldable pub block_at : List ℕ → ℕ → Block
block_at bytes i = eight (λ lane. number_at bytes (i + 4 * lane))

-- the blocks that bytes spell, 32 bytes a block
unfoldable pub filter_at : List ℕ → List Block
filter_at bytes = map (λ place. block_at bytes (32 * place)) (range_with_len 0 (length bytes / 32))

-- eight lanes of 32 bits
pub record IsBlock (block : Block) : Type 0 where
  pub eight : length block ≡ 8
  pub fits : All (λ lane. lane < 2 ^ 32) block

abbrev pub AreBlocks : List Block → Type 0
AreBlocks blocks = All IsBlock blocks

-- so many bytes are the bytes of a filter: of one block up to 2 ^ 32 - 1
pub record IsFilterLength (bytes : ℕ) : Type 0 where
  pub whole : bytes % 32 ≡ 0
  pub some : 0 < bytes
  pub few : bytes / 32 < 2 ^ 32
