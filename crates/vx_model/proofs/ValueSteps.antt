-- Steps of the tests of row values.
use Rattle.std.proofs.Common.{◌≡◌, ℕ, suc, ◌+◌, ◌<◌, ◌&&◌, Bool, false, List, [], ◌∷◌, length, get_or, drop, map, refl, ap}
use Rattle.std.proofs.lemmas.List.{drop_more, length-map}
use Rattle.vx_model.specs.declared.dtype.StructField.{StructField}
use Rattle.vx_model.specs.declared.row_value.Value.{Value}
use Rattle.vx_model.specs.Words.{all_by}
use Rattle.vx_model.specs.Ty.{Named, tys_of}
use Rattle.vx_model.specs.ValueData.{ValueData, value_fits, values_fit}
use Rattle.vx_model.specs.TyView.{ty, field_ty}
use Rattle.vx_model.specs.TreeView.{val}
use Rattle.vx_model.proofs.Views.{view_rules, field_ty_is, and_false}
use Rattle.vx_model.proofs.CellViews.{cell_rules}

pub drop_all_values : (f : ValueData → Bool) (vs : List Value) (i : ℕ) (v : Value) → i < length vs → v ≡ get_or vs i v
    → all_by f (map val (drop i vs)) ≡ (f (val v) && all_by f (map val (drop (i + 1) vs)))
drop_all_values f vs i v lt is = rw (drop_more vs i v lt, ← is) refl

pub drop_values_fit : (fs : List StructField) (vs : List Value) (i : ℕ) (f : StructField) (v : Value) → i < length fs → i < length vs → f ≡ get_or fs i f → v ≡ get_or vs i v
    → values_fit (tys_of (map field_ty (drop i fs))) (map val (drop i vs)) ≡ (value_fits (ty f.dtype) (val v) && values_fit (tys_of (map field_ty (drop (i + 1) fs))) (map val (drop (i + 1) vs)))
drop_values_fit fs vs i f v lt more f-is v-is = rw (drop_more fs i f lt, ← f-is, drop_more vs i v more, ← v-is, field_ty_is f) refl

-- more or fewer values than fields don't fit
pub other_value_count : (fs : List Named) (vs : List ValueData) → (length fs ≡ length vs → ⊥) → values_fit (tys_of fs) vs ≡ false
other_value_count [] [] h = absurd (h refl)
other_value_count [] (v ∷ vs) h = refl
other_value_count (f ∷ fs) [] h = refl
other_value_count (f ∷ fs) (v ∷ vs) h = rw (other_value_count fs vs (λ e. h (ap suc e))) (and_false (value_fits f.1 v))

pub ruleset value_rules = (drop_all_values, drop_values_fit, other_value_count, length-map, view_rules, cell_rules)
