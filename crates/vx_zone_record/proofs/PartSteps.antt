-- Values and cells as folds see them.
use Rattle.std.proofs.Common.{◌≡◌, ℕ, List, map, refl, sym, subst}
use Rattle.std.specs.Prelude.{Result, IfOk}
use Rattle.vx_model.specs.declared.row_value.Value.{Value}
use Rattle.vx_model.specs.TreeView.{val}
use Rattle.vx_model.specs.CellData.{CellData}
use Rattle.vx_model.specs.Ty.{Ty}
use Rattle.vx_model.specs.ValueData.{ValueData, null_value, bool_value, int_value, text_value, bytes_value, list_value, struct_value, value}
use Rattle.vx_aggregate_spec.specs.Aggregate.{Aggregate}
use Rattle.vx_zone_spec.specs.Record.{aggregate_value}
use Rattle.vx_zone_spec.specs.ValueOrder.{value_le}
use Rattle.vx_zone_record.specs.Scalars.{shallow}
use Rattle.vx_zone_record.proofs.RecordSteps.{cells_seen}
use Rattle.vx_zone_record.proofs.RowValues.{null_shallow}
use Rattle.vx_zone_record.proofs.OrderSteps.{greater_null, greater_other, greater_takes, greater_stays, lesser_null, lesser_other, lesser_stays, lesser_takes}

-- a value of what is seen of cells is one of their values
pub value_seen : {R E : Type 0} (f : R → CellData) (hash : List ℕ → ℕ) (t : Ty) (cs : List R) (a : Aggregate) (r : Result Value E) → IfOk r (λ v. val v ≡ aggregate_value hash t (map (λ c. value (f c)) cs) a)
    → IfOk r (λ v. val v ≡ aggregate_value hash t (map value (map f cs)) a)
value_seen f hash t cs a r h = subst (λ (vs : List ValueData). IfOk r (λ v. val v ≡ aggregate_value hash t vs a)) (sym (cells_seen f cs)) h

pub ruleset seen_rules = (cells_seen)

-- ---- lists and structs are compared with nothing, so what is below them doesn't count

pub le_shallow : (v w : ValueData) → value_le (shallow v) (shallow w) ≡ value_le v w
le_shallow null_value w = refl
le_shallow (list_value vs) w = refl
le_shallow (struct_value vs) w = refl
le_shallow (bool_value b) null_value = refl
le_shallow (bool_value b) (bool_value c) = refl
le_shallow (bool_value b) (int_value n) = refl
le_shallow (bool_value b) (text_value t) = refl
le_shallow (bool_value b) (bytes_value t) = refl
le_shallow (bool_value b) (list_value ws) = refl
le_shallow (bool_value b) (struct_value ws) = refl
le_shallow (int_value n) null_value = refl
le_shallow (int_value n) (bool_value c) = refl
le_shallow (int_value n) (int_value m) = refl
le_shallow (int_value n) (text_value t) = refl
le_shallow (int_value n) (bytes_value t) = refl
le_shallow (int_value n) (list_value ws) = refl
le_shallow (int_value n) (struct_value ws) = refl
le_shallow (text_value s) null_value = refl
le_shallow (text_value s) (bool_value c) = refl
le_shallow (text_value s) (int_value n) = refl
le_shallow (text_value s) (text_value t) = refl
le_shallow (text_value s) (bytes_value t) = refl
le_shallow (text_value s) (list_value ws) = refl
le_shallow (text_value s) (struct_value ws) = refl
le_shallow (bytes_value s) null_value = refl
le_shallow (bytes_value s) (bool_value c) = refl
le_shallow (bytes_value s) (int_value n) = refl
le_shallow (bytes_value s) (text_value t) = refl
le_shallow (bytes_value s) (bytes_value t) = refl
le_shallow (bytes_value s) (list_value ws) = refl
le_shallow (bytes_value s) (struct_value ws) = refl

pub ruleset choice_rules = (greater_null, greater_other, greater_takes, greater_stays, lesser_null, lesser_other, lesser_stays, lesser_takes, le_shallow, null_shallow)
