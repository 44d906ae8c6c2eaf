-- A test of types.
use Rattle.std.proofs.Common.{◌≡◌, ◌↔◌, Bool, true, sym, ◌∙◌}
use Rattle.std.specs.Ordering.{on}
use Rattle.vx_model.specs.Ty.{Ty, ty_eq}
use Rattle.vx_model.specs.TyLaws.{ty_eq_decides}
use Rattle.vx_model.specs.TyView.{ty}
use Rattle.vx_model.specs.declared.dtype.DType.{DType}

pub type_told : (d e : DType) (t : Ty) (b : Bool) → ty d ≡ t → b ≡ on ty ty_eq d e → (b ≡ true) ↔ (t ≡ ty e)
type_told d e t b is same = (λ h. sym is ∙ (ty_eq_decides (ty d) (ty e)).0 (sym same ∙ h), λ h. same ∙ (ty_eq_decides (ty d) (ty e)).1 (is ∙ h))
