-- What a write is given beside its strategy and its schema.
use Rattle.std.specs.Prelude.{◌≡◌, ℕ, List, Option, None}
use Rattle.vx_model.specs.declared.encoding.EncodingId.{EncodingId}
use Rattle.vx_model.specs.Distinct.{first_repeat}
use Rattle.vx_model.specs.ChunkData.{ChunkData}
use Rattle.vx_hash.specs.XxHash3.{xxhash3_64}
use Rattle.vx_layout_spec.specs.Real.{Whole, SameRows}
use Rattle.vx_zone_spec.specs.Statements.{SmallHash}
use Rattle.vx_segment_spec.specs.Codec.{segment_codec}
use Rattle.vx_plan.specs.PlanData.{Setting}
use Rattle.vx_plan.specs.Valid.{Keeps}

-- The encodings, the ids of the aggregates that are allowed, and a compressor's images are the caller's; segments are of
-- the one grammar, and filters of the one hash.
abbrev pub real : List EncodingId → Option (List (List ℕ)) → (ℕ → ChunkData → ChunkData) → Setting
real ids allowed image = record { codec = segment_codec; encodings = ids; allowed = allowed; image = image; hash = xxhash3_64 }

-- Where no encoding is listed twice and images keep the rows of whole chunks, codec and compressor keep their laws.
abbrev pub RealKeeps : Type 0
RealKeeps = (ids : List EncodingId) (allowed : Option (List (List ℕ))) (image : ℕ → ChunkData → ChunkData) → first_repeat ids ≡ None
    → ((which : ℕ) (p : ChunkData) → Whole p → SameRows p (image which p)) → Keeps (real ids allowed image)

abbrev pub RealHashIsSmall : Type 0
RealHashIsSmall = (ids : List EncodingId) (allowed : Option (List (List ℕ))) (image : ℕ → ChunkData → ChunkData) → SmallHash (real ids allowed image).hash
