-- What starts with a node is lighter than it; what stands for a strategy has its form.
use Rattle.std.proofs.Common.{◌≡◌, ℕ, zero, suc, ◌<◌, ◌≤◌, List, [], ◌∷◌, length, map, drop, get_or, refl, sym, ap, ◌∙◌, arith}
use Rattle.vx_model.specs.declared.dtype.StructField.{StructField}
use Rattle.vx_model.specs.TyView.{field_ty}
use Rattle.vx_model.specs.Ty.{Ty, boolean, primitive, utf8, binary, list, struct, extension}
use Rattle.vx_strategy_spec.specs.StrategyData.{StrategyData, flat, chunked, grouped, compressed, coded, zoned, structured, listed, tabled}
use Rattle.vx_strategy.specs.declared.structs.StructStrategy.{StructStrategy}
use Rattle.vx_table_dispatch.specs.Settled.{further, settled}
use Rattle.vx_table_dispatch.proofs.Settling.{holds_on}
use Rattle.vx_dispatch.proofs.DispatchLaws.{walk_dispatch}
use Rattle.vx_machine_turns.specs.Forms.{form_nodes}
use Rattle.vx_machine_start.specs.Starting.{field_form, field_forms}
use Rattle.vx_machine_node.specs.View.{form_at}
use Rattle.vx_machine_start.specs.Weight.{weight, weights}
use Rattle.vx_machine_start.proofs.StartShows.{fields_more}

-- ---- weights

later_weights : (s : StructStrategy) (xs : List StructField) (i : ℕ) → weights (field_forms s (map field_ty (drop i xs))) ≤ weights (field_forms s (map field_ty xs))
later_weights s xs zero = omega arith
later_weights s [] (suc i) = omega arith
later_weights s (x ∷ xs) (suc i) = omega (arith, later_weights s xs i)

-- a field's
pub field_weight : (s : StructStrategy) (xs : List StructField) (i : ℕ) (x : StructField) → i < length xs → x ≡ get_or xs i x → weight (field_form s (field_ty x)) ≤ weights (field_forms s (map field_ty xs))
field_weight s xs i x lt is = omega (arith, later_weights s xs i, ap weights (fields_more s xs i x lt is))

-- ---- what stands for a strategy

further_form : (w : StrategyData) (t : Ty) → form_at (further w t) t ≡ form_at w t
further_form (tabled v l ws lists wraps) t = sym (walk_dispatch form_nodes (tabled v l ws lists wraps) t)
further_form (listed e o v f) (list t n) = refl
further_form (listed e o v f) (boolean n) = refl
further_form (listed e o v f) (primitive p n) = refl
further_form (listed e o v f) (utf8 n) = refl
further_form (listed e o v f) (binary n) = refl
further_form (listed e o v f) (struct fs n) = refl
further_form (listed e o v f) (extension tag t) = refl
further_form (flat o) t = refl
further_form (chunked w) t = refl
further_form (grouped g w) t = refl
further_form (compressed which room w) t = refl
further_form (coded o c v f) (boolean n) = refl
further_form (coded o c v f) (primitive p n) = refl
further_form (coded o c v f) (utf8 n) = refl
further_form (coded o c v f) (binary n) = refl
further_form (coded o c v f) (list t n) = refl
further_form (coded o c v f) (struct fs n) = refl
further_form (coded o c v f) (extension tag t) = refl
further_form (zoned o w stats) t = refl
further_form (structured v d ws) t = refl

pub settled_form : (w : StrategyData) (t : Ty) → form_at (settled w t) t ≡ form_at w t
settled_form w t = holds_on (λ x. form_at x t ≡ form_at w t) t (λ x e. further_form x t ∙ e) w refl
