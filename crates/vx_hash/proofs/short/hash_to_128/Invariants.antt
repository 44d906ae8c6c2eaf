use Rattle.std.proofs.Common.{◌≡◌, length}
use Rattle.vx_hash.specs.Words.{add_each, mul, prime_1}
use Rattle.vx_hash.specs.XxHash3.{mix_pair}
use Rattle.vx_hash.proofs.short.hash_to_128.Given as goal

abbrev pub invariant-pairs : goal.invariant-pairs
invariant-pairs l = l.sum ≡ add_each (mul (length l.bytes) prime_1) (mix_pair l.bytes) l.place
