-- One block of a stored filter.
use Rattle.std.proofs.Common.{◌≡◌, ℕ, ◌*◌, ◌/◌, ◌<◌, List, length, get_or, sym, ap, ◌∙◌, arith}
use Rattle.std.specs.Prelude.{slice_index_or}
use Rattle.std.proofs.lemmas.List.FromFn.{length-map-range_with_len, get_or-map-range_with_len}
use Rattle.vx_bloom_spec.specs.Blocks.{Block, mask, no_lanes, covers}
use Rattle.vx_bloom_spec.specs.Bytes.{block_at, filter_at}
use Rattle.vx_bloom_spec.specs.Filter.{block_of, may_contain}

abbrev place_at : List ℕ → ℕ → Block
place_at bytes place = block_at bytes (32 * place)

length-filter_at : (bytes : List ℕ) → length (filter_at bytes) ≡ length bytes / 32
unfolding filter_at
length-filter_at bytes = length-map-range_with_len (place_at bytes) 0 (length bytes / 32)

get_or-filter_at : (bytes : List ℕ) (place : ℕ) (d : Block) → place < length bytes / 32 → get_or (filter_at bytes) place d ≡ block_at bytes (32 * place)
unfolding filter_at
get_or-filter_at bytes place d h = get_or-map-range_with_len (place_at bytes) 0 (length bytes / 32) place place d h (omega arith)

-- the mask is looked for in one block
pub stored_block : (bytes : List ℕ) (count hash place : ℕ) → length bytes ≡ 32 * count → place ≡ block_of count hash → place < count
    → may_contain (filter_at bytes) hash ≡ covers (block_at bytes (32 * place)) (mask hash)
unfolding may_contain
stored_block bytes count hash place whole at within =
    let count_is : length bytes / 32 ≡ count = omega arith in
    let many : length (filter_at bytes) ≡ count = length-filter_at bytes ∙ count_is in
    let low : place < length bytes / 32 = omega arith in
    ap (λ n. covers (slice_index_or (filter_at bytes) (block_of n hash) no_lanes) (mask hash)) many
    ∙ ap (λ n. covers (slice_index_or (filter_at bytes) n no_lanes) (mask hash)) (sym at)
    ∙ ap (λ b. covers b (mask hash)) (get_or-filter_at bytes place no_lanes low)

pub ruleset stored_rules = (stored_block)
