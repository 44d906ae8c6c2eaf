-- What a sink answers.
use Rattle.std.specs.Prelude.{ℕ, ◌+◌, Bool, true, false, List, [], ◌∷◌, Option, Result, Ok, Err}
use Rattle.vx_model.specs.declared.segment.SegmentId.{SegmentId}
use Rattle.vx_sink.specs.declared.sink.SinkError.{SinkError}
use Rattle.vx_sink.specs.declared.sink.SinkError.TheVariants.{Failed, OutOfMemory}
use Rattle.vx_fault.specs.Told.{then_told}

abbrev pub sink_failed : Result SegmentId SinkError → Bool
sink_failed (Ok x) = false
sink_failed (Err Failed) = true
sink_failed (Err OutOfMemory) = false

abbrev pub next_after : ℕ → Result SegmentId SinkError → ℕ
next_after next (Ok id) = next + 1
next_after next (Err e) = next

abbrev pub segments_after : Option (List (List ℕ)) → List ℕ → Result SegmentId SinkError → Option (List (List ℕ))
segments_after told bytes (Ok id) = then_told told (bytes ∷ [])
segments_after told bytes (Err e) = told
