-- The errors of the rules as one.
use Rattle.std.specs.Prelude.{◌≡◌, ◌⊎◌}
use Rattle.vx_chunk.specs.declared.error.ChunkError.{ChunkError}
use Rattle.vx_chunk.specs.declared.error.ChunkError.TheVariants as chunks
use Rattle.vx_split.specs.declared.error.SplitError.{SplitError}
use Rattle.vx_split.specs.declared.error.SplitError.TheVariants as splits
use Rattle.vx_zone_guard.specs.declared.error.GuardError.{GuardError}
use Rattle.vx_zone_guard.specs.declared.error.GuardError.TheVariants as guards
use Rattle.vx_nodes.specs.declared.error.NodeError.{NodeError}
use Rattle.vx_nodes.specs.declared.error.NodeError.TheVariants.{NotStruct, DuplicateField, ZoneCut, TooLarge, OutOfMemory}

abbrev pub of_chunk : ChunkError → NodeError
of_chunk (chunks.TooLarge n) = TooLarge n
of_chunk chunks.OutOfMemory = OutOfMemory

abbrev pub of_split : SplitError → NodeError
of_split splits.NotStruct = NotStruct
of_split (splits.DuplicateField name) = DuplicateField name
of_split (splits.TooLarge n) = TooLarge n
of_split splits.OutOfMemory = OutOfMemory

abbrev pub of_guard : GuardError → NodeError
of_guard (guards.ZoneCut n) = ZoneCut n
of_guard guards.OutOfMemory = OutOfMemory

module _ {E : Type 0} where
  -- memory ran out, or it is the rule's own error, which has its cause
  abbrev pub Because : (E → NodeError) → (E → Type 0) → NodeError → Type 0
  Because f P e = (e ≡ OutOfMemory) ⊎ ((x : E) × ((e ≡ f x) × P x))
