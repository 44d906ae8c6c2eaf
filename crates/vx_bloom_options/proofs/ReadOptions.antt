-- Reading options.
use Rattle.std.proofs.Common.{◌≡◌, ℕ, ◌<◌, ◌^◌, List, ◌++◌, length, take, refl, sym, ap, ◌∙◌, arith}
use Rattle.std.proofs.lemmas.Nat.{from_le_bytes-to_le_bytes_4}
use Rattle.std.proofs.Math.Seq.{take-add, take-length}
use Rattle.vx_bloom_spec.specs.Bytes.{number_bytes, number_at}
use Rattle.vx_bloom_options.specs.declared.options.HashFn.{HashFn}
use Rattle.vx_bloom_options.specs.declared.options.HashFn.TheVariants.{XxHash3_64}
use Rattle.vx_bloom_options.specs.declared.options.BloomOptions.{BloomOptions}
use Rattle.vx_bloom_options.specs.Options.{hash_number, blocks_in, hash_fn_in, options_bytes, SameOptions}
use Rattle.vx_bloom_spec.proofs.ReadBack.{AreBytes, number_bytes-number_at}

-- two numbers that are read from eight bytes have these bytes
pub two_numbers : (bytes : List ℕ) → AreBytes bytes → length bytes ≡ 8 → number_bytes (number_at bytes 0) ++ number_bytes (number_at bytes 4) ≡ bytes
two_numbers bytes are e =
    rw (number_bytes-number_at bytes 0 are (omega arith), number_bytes-number_at bytes 4 are (omega arith), ← take-add 4 4 bytes)
    (ap (λ n. take n bytes) (sym e) ∙ take-length bytes)

-- what is read from the bytes of two numbers
pub record ReadsTwo (bytes : List ℕ) (m n : ℕ) : Type 0 where
  pub len : length bytes ≡ 8
  pub first : number_at bytes 0 ≡ m
  pub second : number_at bytes 4 ≡ n

pub reads_two : (bytes : List ℕ) (m n : ℕ) → m < 2 ^ 32 → n < 2 ^ 32 → number_bytes m ++ number_bytes n ≡ bytes → ReadsTwo bytes m n
unfolding number_bytes number_at
reads_two bytes m n low low' e =
    rw (← e) (record { len = refl; first = from_le_bytes-to_le_bytes_4 m low; second = from_le_bytes-to_le_bytes_4 n low' })

hash_number_fits : (h : HashFn) → hash_number h < 2 ^ 32
hash_number_fits XxHash3_64 = omega arith

pub hash_number_zero : (h : HashFn) → hash_number h ≡ 0
hash_number_zero XxHash3_64 = refl

same_hash_fn : (g h : HashFn) → hash_number g ≡ hash_number h → g ≡ h
same_hash_fn XxHash3_64 XxHash3_64 e = refl

-- what is read from the bytes of options
pub reads_options : (bytes : List ℕ) (o : BloomOptions) → blocks_in o < 2 ^ 32 → options_bytes o ≡ bytes
    → ReadsTwo bytes (blocks_in o) (hash_number (hash_fn_in o))
reads_options bytes o low e = reads_two bytes (blocks_in o) (hash_number (hash_fn_in o)) low (hash_number_fits (hash_fn_in o)) e

-- options whose numbers are read from the bytes of others are the same
pub same_read : (bytes : List ℕ) (o p : BloomOptions) → ReadsTwo bytes (blocks_in o) (hash_number (hash_fn_in o))
    → number_at bytes 0 ≡ blocks_in p → number_at bytes 4 ≡ hash_number (hash_fn_in p) → SameOptions o p
same_read bytes o p reads e e' = record {
  blocks = sym reads.first ∙ e;
  hash_fn = same_hash_fn (hash_fn_in o) (hash_fn_in p) (sym reads.second ∙ e');
}

pub ruleset read_rules = (two_numbers)
