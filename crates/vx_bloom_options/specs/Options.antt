-- The options of a filter, and their bytes.
use Rattle.std.specs.Prelude.{◌≡◌, ◌≢◌, ℕ, ◌++◌, List, length, codes, Result, Ok, Err}
use Rattle.std.specs.Int.NonZero.{non_zero_u32_get}
use Rattle.std.specs.Fmt.{decimal}
use Rattle.vx_bloom_spec.specs.Bytes.{number_bytes, number_at}
use Rattle.vx_bloom_options.specs.declared.options.HashFn.{HashFn}
use Rattle.vx_bloom_options.specs.declared.options.HashFn.TheVariants.{XxHash3_64}
use Rattle.vx_bloom_options.specs.declared.options.BloomOptions.{BloomOptions}
use Rattle.vx_bloom_options.specs.declared.options.UnknownHash.{UnknownHash}
use Rattle.vx_bloom_options.specs.declared.options.OptionsError.{OptionsError}
use Rattle.vx_bloom_options.specs.declared.options.OptionsError.TheVariants as errors

-- the number of a hash function in bytes
abbrev pub hash_number : HashFn → ℕ
hash_number XxHash3_64 = 0

abbrev pub hash_name : HashFn → List ℕ
hash_name XxHash3_64 = codes "xxhash3_64"

-- which hash function a number stands for
abbrev pub IsHashNumber : ℕ → Result HashFn UnknownHash → Type 0
IsHashNumber n (Ok h) = hash_number h ≡ n
IsHashNumber n (Err e) = (n ≢ 0) × (e.0 ≡ n)

-- the number of blocks
abbrev pub blocks_in : BloomOptions → ℕ
blocks_in o = non_zero_u32_get o.blocks

abbrev pub hash_fn_in : BloomOptions → HashFn
hash_fn_in o = o.hash_fn

abbrev pub options_bytes : BloomOptions → List ℕ
options_bytes o = number_bytes (blocks_in o) ++ number_bytes (hash_number (hash_fn_in o))

abbrev pub options_text : BloomOptions → List ℕ
options_text o = codes "blocks=" ++ decimal (blocks_in o) ++ codes ", hash_fn=" ++ hash_name (hash_fn_in o)

-- what reading options from bytes answers: the length is looked at first, then the hash function, then the blocks
abbrev pub ReadsOptions : List ℕ → Result BloomOptions OptionsError → Type 0
ReadsOptions bytes (Ok o) = options_bytes o ≡ bytes
ReadsOptions bytes (Err errors.Length) = length bytes ≢ 8
ReadsOptions bytes (Err (errors.UnknownHash n)) = (length bytes ≡ 8) × (number_at bytes 4 ≡ n) × (n ≢ 0)
ReadsOptions bytes (Err errors.ZeroBlocks) = (length bytes ≡ 8) × (number_at bytes 4 ≡ 0) × (number_at bytes 0 ≡ 0)

-- two options of the same blocks and the same hash function
pub record SameOptions (a b : BloomOptions) : Type 0 where
  pub blocks : blocks_in a ≡ blocks_in b
  pub hash_fn : hash_fn_in a ≡ hash_fn_in b
