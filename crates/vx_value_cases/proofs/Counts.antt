-- How many blocks a filter has.
use Rattle.std.proofs.Common.{◌≡◌, ℕ, List, length}
use Rattle.std.specs.Prelude.{slice_index_or}
use Rattle.std.proofs.lemmas.List.{length-set}
use Rattle.vx_bloom_spec.specs.Blocks.{Block, mask, no_lanes, or_lanes}
use Rattle.vx_bloom_spec.specs.Filter.{block_of, inserted}
use Rattle.vx_bloom_spec.proofs.Filters.{length-filter_of}

pub length-inserted : (blocks : List Block) (hash : ℕ) → length (inserted blocks hash) ≡ length blocks
unfolding inserted
length-inserted blocks hash =
    length-set blocks (block_of (length blocks) hash) (or_lanes (slice_index_or blocks (block_of (length blocks) hash) no_lanes) (mask hash))

-- of the empty filter that one begins with
pub ruleset count_rules = (length-filter_of)
