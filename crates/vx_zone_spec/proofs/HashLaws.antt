-- The hash of filters has 64 bits.
use Rattle.std.proofs.Common.{ℕ, ◌/◌, ◌<◌, ◌^◌, Bool, true, false, length, arith}
use Rattle.std.specs.Prelude.{if◌then◌else◌, nat_lt}
use Rattle.std.proofs.lemmas.Nat.{xor_lt}
use Rattle.vx_hash.specs.Words.{mul, xorshift, avalanche, avalanche_short}
use Rattle.vx_hash.specs.XxHash3.{hash_of_none, hash_to_3, hash_to_8, hash_to_16, hash_to_128, hash_to_240, hash_above_240, xxhash3_64}
use Rattle.vx_zone_spec.specs.Statements.{HashIsSmall}

product : (a b : ℕ) → mul a b < 2 ^ 64
product a b = omega arith

mixed_32 : (x : ℕ) → x < 2 ^ 64 → xorshift x 32 < 2 ^ 64
unfolding xorshift
mixed_32 x l = xor_lt 64 x (x / 2 ^ 32) l (omega arith)

mixed_28 : (x : ℕ) → x < 2 ^ 64 → xorshift x 28 < 2 ^ 64
unfolding xorshift
mixed_28 x l = xor_lt 64 x (x / 2 ^ 28) l (omega arith)

long_end : (x : ℕ) → avalanche x < 2 ^ 64
unfolding avalanche
long_end x = mixed_32 _ (product _ _)

short_end : (x : ℕ) → avalanche_short x < 2 ^ 64
unfolding avalanche_short
short_end x = mixed_32 _ (product _ _)

pub hash_is_small : HashIsSmall
unfolding xxhash3_64 hash_of_none hash_to_3 hash_to_8 hash_to_16 hash_to_128 hash_to_240 hash_above_240
hash_is_small b = go (nat_lt (length b) 1) (nat_lt (length b) 4) (nat_lt (length b) 9) (nat_lt (length b) 17) (nat_lt (length b) 129) (nat_lt (length b) 241)
  where
    go : (p q r s t u : Bool)
        → (if p then hash_of_none else if q then hash_to_3 b else if r then hash_to_8 b else if s then hash_to_16 b else if t then hash_to_128 b else if u then hash_to_240 b else hash_above_240 b) < 2 ^ 64
    go true q r s t u = long_end _
    go false true r s t u = long_end _
    go false false true s t u = mixed_28 _ (product _ _)
    go false false false true t u = short_end _
    go false false false false true u = short_end _
    go false false false false false true = short_end _
    go false false false false false false = short_end _
