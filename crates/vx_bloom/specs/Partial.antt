-- What reading a filter from bytes answers.
use Rattle.std.specs.Prelude.{◌≡◌, ℕ, List, length, Result, Ok, Err}
use Rattle.vx_bloom.specs.declared.partial.PartialError.{PartialError}
use Rattle.vx_bloom.specs.declared.partial.PartialError.TheVariants.{Length, BlockCount, OutOfMemory}
use Rattle.vx_bloom_spec.specs.Blocks.{Block}
use Rattle.vx_bloom_spec.specs.Bytes.{filter_bytes, AreBlocks, IsFilterLength}

abbrev pub ReadsFilter : List ℕ → Result (List Block) PartialError → Type 0
ReadsFilter bytes (Ok blocks) = (filter_bytes blocks ≡ bytes) × AreBlocks blocks × IsFilterLength (length bytes)
ReadsFilter bytes (Err Length) = ¬ IsFilterLength (length bytes)
ReadsFilter bytes (Err BlockCount) = ⊥
ReadsFilter bytes (Err OutOfMemory) = IsFilterLength (length bytes)
