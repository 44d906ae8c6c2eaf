-- What the readers return, as contracts see it.
use Rattle.std.specs.Prelude.{◌≡◌, ℕ, List, map, Option, Some, None, Result, Ok, Err}
use Rattle.vx_layout_spec.specs.LayoutTree.{Spec}
use Rattle.vx_metadata.specs.declared.error.MetadataError.{MetadataError}
use Rattle.vx_metadata.specs.declared.error.MetadataError.TheVariants as errors
use Rattle.vx_metadata.specs.declared.read_error.ReadError.{ReadError}
use Rattle.vx_metadata.specs.declared.read_error.ReadError.TheVariants as read_errors
use Rattle.vx_metadata.specs.declared.flat.FlatLayoutMetadata.{FlatLayoutMetadata}
use Rattle.vx_metadata.specs.declared.zoned.AggregateSpec.{AggregateSpec}
use Rattle.vx_metadata.specs.declared.zoned.ZonedMetadata.{ZonedMetadata}
use Rattle.vx_metadata.specs.Values.{Zoned}

-- the refusal of the bytes, which it carries; memory may run out
abbrev pub Refuses : List ℕ → MetadataError → Type 0
Refuses bytes (errors.Metadata kept) = kept ≡ bytes
Refuses bytes errors.OutOfMemory = Unit {0}

abbrev pub Fails : {V : Type 0} → List ℕ → MetadataError → Option V → Type 0
Fails bytes (errors.Metadata kept) read = (kept ≡ bytes) × (read ≡ None)
Fails bytes errors.OutOfMemory read = Unit {0}

-- What came of the bytes, seen by `view`, is what reading gives; where it gives nothing, the refusal of the bytes.
abbrev pub Gives : {X V : Type 0} → (X → V) → List ℕ → Result X MetadataError → Option V → Type 0
Gives view bytes (Ok x) read = read ≡ Some (view x)
Gives view bytes (Err e) read = Fails bytes e read

abbrev pub Stops : {V : Type 0} → ReadError → Option V → Type 0
Stops read_errors.NotSpelled read = read ≡ None
Stops read_errors.OutOfMemory read = Unit {0}

-- the same of a step of reading
abbrev pub Reads : {X V : Type 0} → (X → V) → Result X ReadError → Option V → Type 0
Reads view (Ok x) read = read ≡ Some (view x)
Reads view (Err e) read = Stops e read

abbrev pub the_same : {X : Type 0} → X → X
the_same x = x

abbrev pub kept_tree : FlatLayoutMetadata → Option (List ℕ)
kept_tree m = m.array_encoding_tree

abbrev pub spec_of : AggregateSpec → Spec
spec_of s = record { id = s.id; options = s.options }

abbrev pub zoned : ZonedMetadata → Zoned
zoned m = record { zone_len = m.zone_len; specs = map spec_of m.specs.items }
