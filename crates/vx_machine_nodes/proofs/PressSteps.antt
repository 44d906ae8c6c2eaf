-- What a compressor is asked for: the image of a whole chunk is its own.
use Rattle.std.proofs.Common.{◌≡◌, ◌&&◌, if◌then◌else◌, ℕ, true, ap, ◌∙◌}
use Rattle.vx_model.specs.ChunkData.{ChunkData}
use Rattle.vx_layout_spec.specs.Real.{is_real, Whole}
use Rattle.vx_machine_state.specs.Images.{images_of}

pub image_is : (image : ℕ → ChunkData → ChunkData) (which : ℕ) (p : ChunkData) → Whole p → images_of image which p ≡ image which p
image_is image which p w =
    ap (λ b. if b && is_real p then image which p else p) w.sound ∙ ap (λ b. if true && b then image which p else p) w.real
