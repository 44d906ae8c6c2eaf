-- What a context gives a write.
use Rattle.std.specs.Prelude.{ℕ, List, Option}
use Rattle.vx_model.specs.ChunkData.{ChunkData}
use Rattle.vx_plan.specs.PlanData.{Setting}
use Rattle.vx_setting.specs.Setting.{real}
use Rattle.vx_sink.specs.declared.context.LayoutWriterContext.{LayoutWriterContext}
use Rattle.vx_sink.specs.ContextView.{listed, allowed_in}
use Rattle.vx_machine_state.specs.Images.{images_of}

-- the ids of the aggregates that may be recorded; all where none are given
abbrev pub Allowed : Type 0
Allowed = Option (List (List ℕ))

-- what it lists and allows, and a compressor's images, as it gives them of chunks that can be in memory
abbrev pub setting_of : LayoutWriterContext → (ℕ → ChunkData → ChunkData) → Setting
setting_of ctx image = real (listed ctx) (allowed_in ctx) (images_of image)
