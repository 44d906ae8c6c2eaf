use Rattle.std.proofs.Common.{◌≡◌, ◌+◌, ◌*◌, length}
use Rattle.vx_hash.specs.Words.{add_each, mul, prime_1}
use Rattle.vx_hash.specs.XxHash3.{mix}
use Rattle.vx_hash.proofs.short.hash_to_240.Given as goal

abbrev pub invariant-first : goal.invariant-first
invariant-first l = l.first ≡ add_each (mul (length l.bytes) prime_1) (λ i. mix l.bytes (16 * i) (16 * i)) l.i

abbrev pub invariant-whole : goal.invariant-whole
invariant-whole l = l.whole ≡ add_each l.initial.whole (λ i. mix l.bytes (16 * (8 + i)) (16 * i + 3)) l.i
