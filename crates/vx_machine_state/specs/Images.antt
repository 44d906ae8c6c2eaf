-- What the codec and the compressor's images keep of chunks.
use Rattle.std.specs.Prelude.{◌≡◌, ◌&&◌, ℕ, if◌then◌else◌}
use Rattle.vx_model.specs.Ty.{Ty}
use Rattle.vx_model.specs.ChunkData.{ChunkData, is_sound}
use Rattle.vx_layout_spec.specs.Real.{is_real, Whole, SameRows}
use Rattle.vx_layout_spec.specs.Codec.{Lawful}
use Rattle.vx_plan.specs.PlanData.{Setting, rows_in}
use Rattle.vx_machine_state.specs.Typed.{Typed}

pub record Careful (s : Setting) : Type 0 where
  pub codec : Lawful s.codec s.encodings
  -- images are of the same type, and have as many rows
  pub image_type : (which : ℕ) (t : Ty) (p : ChunkData) → Typed t p → Typed t (s.image which p)
  pub image_rows : (which : ℕ) (p : ChunkData) → rows_in (s.image which p) ≡ rows_in p

-- Images of chunks that can be in memory, as a compressor gives them. No other chunk is ever compressed: it is its own image.
abbrev pub images_of : (ℕ → ChunkData → ChunkData) → ℕ → ChunkData → ChunkData
images_of image which p = if is_sound p && is_real p then image which p else p

-- so a compressor that keeps rows keeps types and rows of all
abbrev pub ImagesAreCareful : Type 0
ImagesAreCareful = (s : Setting) (image : ℕ → ChunkData → ChunkData) → s.image ≡ images_of image → Lawful s.codec s.encodings
    → ((which : ℕ) (p : ChunkData) → Whole p → SameRows p (image which p)) → Careful s
