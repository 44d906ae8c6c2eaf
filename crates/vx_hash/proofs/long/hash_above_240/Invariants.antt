use Rattle.std.proofs.Common.{◌≡◌, length}
use Rattle.vx_hash.specs.Words.{add_each, mul, prime_1}
use Rattle.vx_hash.specs.XxHash3.{folded_lanes}
use Rattle.vx_hash.proofs.long.hash_above_240.Given as goal

abbrev pub invariant-pairs : goal.invariant-pairs
invariant-pairs l = l.sum ≡ add_each (mul (length l.bytes) prime_1) (folded_lanes l.lanes) l.pair
