-- Steps of the tests of cells.
use Rattle.std.proofs.Common.{◌≡◌, ℕ, suc, ◌+◌, ◌<◌, ◌&&◌, false, List, [], ◌∷◌, length, get_or, drop, map, refl, ap}
use Rattle.std.proofs.lemmas.List.{drop_more, length-map}
use Rattle.vx_model.specs.declared.dtype.StructField.{StructField}
use Rattle.vx_model.specs.declared.cell.Cell.{Cell}
use Rattle.vx_model.specs.Ty.{Named, tys_of}
use Rattle.vx_model.specs.CellData.{CellData, fits, fields_fit}
use Rattle.vx_model.specs.TyView.{ty, field_ty}
use Rattle.vx_model.specs.TreeView.{tree}
use Rattle.vx_model.proofs.Views.{view_rules, field_ty_is, and_false}
use Rattle.vx_model.proofs.CellViews.{cell_rules, drop_all_by}

pub drop_fields_fit : (fs : List StructField) (cs : List Cell) (i : ℕ) (f : StructField) (c : Cell) → i < length fs → i < length cs → f ≡ get_or fs i f → c ≡ get_or cs i c
    → fields_fit (tys_of (map field_ty (drop i fs))) (map tree (drop i cs)) ≡ (fits (ty f.dtype) (tree c) && fields_fit (tys_of (map field_ty (drop (i + 1) fs))) (map tree (drop (i + 1) cs)))
drop_fields_fit fs cs i f c lt more f-is c-is = rw (drop_more fs i f lt, ← f-is, drop_more cs i c more, ← c-is, field_ty_is f) refl

-- more or fewer cells than fields don't fit
pub other_count : (fs : List Named) (cs : List CellData) → (length fs ≡ length cs → ⊥) → fields_fit (tys_of fs) cs ≡ false
other_count [] [] h = absurd (h refl)
other_count [] (c ∷ cs) h = refl
other_count (f ∷ fs) [] h = refl
other_count (f ∷ fs) (c ∷ cs) h = rw (other_count fs cs (λ e. h (ap suc e))) (and_false (fits f.1 c))

pub ruleset fit_rules = (drop_all_by, drop_fields_fit, other_count, length-map, view_rules, cell_rules)
