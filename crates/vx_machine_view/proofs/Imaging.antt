-- A compressor that keeps rows keeps types and rows of all chunks.
use Rattle.std.proofs.Common.{◌≡◌, ◌&&◌, ◌∙◌, ℕ, if◌then◌else◌, Bool, true, false, length, refl, sym, ap, subst}
use Rattle.std.proofs.lemmas.List.{length-map}
use Rattle.vx_model.specs.ValueData.{value}
use Rattle.vx_model.specs.Ty.{Ty}
use Rattle.vx_model.specs.ChunkData.{ChunkData, plain_piece, constant_piece, dict_piece, chunked_piece, list_piece, struct_piece, extension_piece, piece_type, cells, is_sound}
use Rattle.vx_layout_spec.specs.Real.{is_real, Whole, SameRows}
use Rattle.vx_plan.specs.PlanData.{rows_in}
use Rattle.vx_machine_state.specs.Images.{ImagesAreCareful}
use Rattle.vx_machine_state.specs.Typed.{Typed}
use Rattle.vx_machine_view.proofs.Words.{and_left, and_right}
use Rattle.vx_machine_view.proofs.Sounding.{sound_is_typed}

type_of : (t : Ty) (p : ChunkData) → Typed t p → piece_type p ≡ t
type_of t (struct_piece u ps valid n) w = w.0
type_of t (plain_piece u cs) w = w
type_of t (constant_piece u c n) w = w
type_of t (dict_piece codes values) w = w
type_of t (chunked_piece u ps) w = w
type_of t (list_piece u e offsets valid) w = w
type_of t (extension_piece u p) w = w

module _ (image : ℕ → ChunkData → ChunkData) (keeps : (which : ℕ) (p : ChunkData) → Whole p → SameRows p (image which p)) where
  whole_if : (p : ChunkData) → (is_sound p && is_real p) ≡ true → Whole p
  whole_if p e = record { sound = and_left (is_sound p) (is_real p) e; real = and_right (is_sound p) (is_real p) e }

  typed_by : (which : ℕ) (t : Ty) (p : ChunkData) → Typed t p → (b : Bool) → (is_sound p && is_real p) ≡ b → Typed t (if b then image which p else p)
  typed_by which t p w true e = let k : SameRows p (image which p) = keeps which p (whole_if p e) in sound_is_typed (image which p) t k.whole.sound (k.type ∙ type_of t p w)
  typed_by which t p w false e = w

  rows_by : (which : ℕ) (p : ChunkData) (b : Bool) → (is_sound p && is_real p) ≡ b → rows_in (if b then image which p else p) ≡ rows_in p
  rows_by which p true e = let k : SameRows p (image which p) = keeps which p (whole_if p e) in sym (length-map (cells (image which p)) value) ∙ ap length k.values ∙ length-map (cells p) value
  rows_by which p false e = refl

pub images_are_careful : ImagesAreCareful
images_are_careful s image is codec keeps = record {
  codec = codec;
  image_type = λ which t p w. subst (λ z. Typed t (z which p)) (sym is) (typed_by image keeps which t p w (is_sound p && is_real p) refl);
  image_rows = λ which p. ap (λ z. rows_in (z which p)) is ∙ rows_by image keeps which p (is_sound p && is_real p) refl;
}
