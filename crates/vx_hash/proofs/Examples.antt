-- A worked value of the definition.
use Rattle.std.proofs.Common.{◌≡◌, refl}
use Rattle.std.specs.Prelude.{codes}
use Rattle.vx_hash.specs.Words.{word, half, xorshift, key}
use Rattle.vx_hash.specs.XxHash3.{hash_to_8, xxhash3_64}

hash_of_vortex : xxhash3_64 (codes "vortex") ≡ 16649171463689419262
unfolding xxhash3_64 hash_to_8 word half xorshift key
hash_of_vortex = refl
