-- Where settings keep the rows of whole chunks, the compressor keeps those of all.
use Rattle.std.proofs.Common.{◌≡◌, ℕ, if◌then◌else◌, refl, sym, ap, subst}
use Rattle.std.proofs.lemmas.Bool.{and_from}
use Rattle.vx_model.specs.ChunkData.{ChunkData, piece_type, is_sound}
use Rattle.vx_layout_spec.specs.Real.{is_real, Whole, Of, SameRows}
use Rattle.vx_plan.specs.Valid.{Keeps}
use Rattle.vx_sink.specs.declared.context.LayoutWriterContext.{LayoutWriterContext}
use Rattle.vx_machine_state.specs.Images.{Careful, images_of}
use Rattle.vx_machine_view.proofs.Imaging.{images_are_careful}
use Rattle.vx_machine.specs.Context.{setting_of}

-- of whole chunks they are the compressor's own
pub images_whole : (image : ℕ → ChunkData → ChunkData) (which : ℕ) (p : ChunkData) → Whole p → images_of image which p ≡ image which p
images_whole image which p w = ap (λ b. if b then image which p else p) (and_from (is_sound p) (is_real p) w.sound w.real)

pub images_keep : (image : ℕ → ChunkData → ChunkData) → ((which : ℕ) (p : ChunkData) → Whole p → SameRows p (image which p)) → (which : ℕ) (p : ChunkData) → Whole p → SameRows p (images_of image which p)
images_keep image keeps which p w = subst (SameRows p) (sym (images_whole image which p w)) (keeps which p w)

module _ (ctx : LayoutWriterContext) (image : ℕ → ChunkData → ChunkData) (keeps : Keeps (setting_of ctx image)) where
  kept : (which : ℕ) (p : ChunkData) → Whole p → SameRows p (image which p)
  kept which p w =
      let of : Of (piece_type p) p = record { typed = refl; whole = w } in
      let o : Of (piece_type p) (images_of image which p) = keeps.image_of which (piece_type p) p of in
      subst (SameRows p) (images_whole image which p w) (record { whole = o.whole; type = o.typed; values = keeps.image_rows which (piece_type p) p of })

  pub keeps_careful : Careful (setting_of ctx image)
  keeps_careful = images_are_careful (setting_of ctx image) image refl keeps.codec kept
