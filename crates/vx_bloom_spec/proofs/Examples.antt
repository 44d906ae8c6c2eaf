-- Worked values of the definitions, at the hash of the text `vortex`.
use Rattle.std.proofs.Common.{◌≡◌, ℕ, [], ◌∷◌, true, refl}
use Rattle.vx_bloom_spec.specs.Blocks.{chosen_bit, mask, no_lanes, or_lanes}
use Rattle.vx_bloom_spec.specs.Bytes.{number_bytes, block_bytes, filter_bytes}
use Rattle.vx_bloom_spec.specs.Filter.{block_of, or_all, filter_of}

abbrev hash_of_vortex : ℕ
hash_of_vortex = 16649171463689419262

place_of_vortex : block_of 256 hash_of_vortex ≡ 231
place_of_vortex = refl

bytes_of_vortex : filter_bytes (filter_of 1 (hash_of_vortex ∷ []))
    ≡ 0x00 ∷ 0x10 ∷ 0x00 ∷ 0x00 ∷ 0x00 ∷ 0x00 ∷ 0x00 ∷ 0x02 ∷ 0x00 ∷ 0x20 ∷ 0x00 ∷ 0x00 ∷ 0x00 ∷ 0x00 ∷ 0x00 ∷ 0x08
    ∷ 0x00 ∷ 0x00 ∷ 0x00 ∷ 0x02 ∷ 0x40 ∷ 0x00 ∷ 0x00 ∷ 0x00 ∷ 0x00 ∷ 0x40 ∷ 0x00 ∷ 0x00 ∷ 0x00 ∷ 0x10 ∷ 0x00 ∷ 0x00 ∷ []
unfolding filter_bytes block_bytes number_bytes filter_of or_all or_lanes mask chosen_bit no_lanes
bytes_of_vortex = refl
