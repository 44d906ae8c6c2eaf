-- The value of an aggregate, by what is folded.
use Rattle.std.proofs.Common.{◌≡◌, ℕ, true, List, map, sym, subst, ap, ◌∙◌}
use Rattle.std.specs.Prelude.{Result, IfOk}
use Rattle.vx_model.specs.declared.row_value.Value.{Value}
use Rattle.vx_model.specs.TreeView.{val}
use Rattle.vx_model.specs.Words.{all_by}
use Rattle.vx_model.specs.Ty.{Ty, has_order}
use Rattle.vx_model.specs.ValueData.{ValueData, is_row_value}
use Rattle.vx_aggregate_spec.specs.Aggregate.{Aggregate, maximum, minimum, bounded_maximum, bounded_minimum}
use Rattle.vx_zone_spec.specs.Bounds.{upper_bound, lower_bound}
use Rattle.vx_zone_spec.specs.ValueOrder.{greatest, least}
use Rattle.vx_zone_spec.specs.Record.{aggregate_value}
use Rattle.vx_zone_record_spec.specs.Held.{has_state}
use Rattle.vx_zone_record.specs.Scalars.{shallow_rows}
use Rattle.vx_zone_record.proofs.RowValues.{bound_order, byte_order, rows_are}

-- what is given is also the same value in other words
same_value : {E : Type 0} (r : Result Value E) (v w : ValueData) → v ≡ w → IfOk r (λ x. val x ≡ v) → IfOk r (λ x. val x ≡ w)
same_value r v w e h = subst (λ (z : ValueData). IfOk r (λ x. val x ≡ z)) e h

-- where an aggregate has a state, so has one that is the same
pub state_of : (t : Ty) (a b : Aggregate) → a ≡ b → has_state t a ≡ true → has_state t b ≡ true
state_of t a b is held = subst (λ (z : Aggregate). has_state t z ≡ true) is held

-- rows that are compared are folded whole
module _ {R : Type 0} (t : Ty) (f : R → ValueData) (rows : List R) (o : has_order t ≡ true) (fit : all_by (is_row_value t) (map f rows) ≡ true) where
  greatest_is : greatest (shallow_rows f rows) ≡ greatest (map f rows)
  greatest_is = ap greatest (rows_are t f rows o fit)

  least_is : least (shallow_rows f rows) ≡ least (map f rows)
  least_is = ap least (rows_are t f rows o fit)

module _ {R E : Type 0} (hash : List ℕ → ℕ) (t : Ty) (f : R → ValueData) (rows : List R) (fit : all_by (is_row_value t) (map f rows) ≡ true) (a : Aggregate) (held : has_state t a ≡ true) (r : Result Value E) (w : ValueData) where
  pub greatest_given : a ≡ maximum → w ≡ greatest (shallow_rows f rows) → IfOk r (λ v. val v ≡ w) → IfOk r (λ v. val v ≡ aggregate_value hash t (map f rows) a)
  greatest_given is e h =
      same_value r w (aggregate_value hash t (map f rows) a)
      (e ∙ greatest_is t f rows (bound_order t (state_of t a maximum is held)) fit ∙ sym (ap (aggregate_value hash t (map f rows)) is)) h

  pub least_given : a ≡ minimum → w ≡ least (shallow_rows f rows) → IfOk r (λ v. val v ≡ w) → IfOk r (λ v. val v ≡ aggregate_value hash t (map f rows) a)
  least_given is e h =
      same_value r w (aggregate_value hash t (map f rows) a)
      (e ∙ least_is t f rows (bound_order t (state_of t a minimum is held)) fit ∙ sym (ap (aggregate_value hash t (map f rows)) is)) h

  pub upper_given : (n k : ℕ) → a ≡ bounded_maximum n → k ≡ n → w ≡ greatest (shallow_rows f rows) → IfOk r (λ v. val v ≡ upper_bound k w) → IfOk r (λ v. val v ≡ aggregate_value hash t (map f rows) a)
  upper_given n k is k_is e h =
      same_value r (upper_bound k w) (aggregate_value hash t (map f rows) a)
      (ap (λ (z : ℕ). upper_bound z w) k_is ∙ ap (upper_bound n) (e ∙ greatest_is t f rows (byte_order t (state_of t a (bounded_maximum n) is held)) fit) ∙ sym (ap (aggregate_value hash t (map f rows)) is)) h

  pub lower_given : (n k : ℕ) → a ≡ bounded_minimum n → k ≡ n → w ≡ least (shallow_rows f rows) → IfOk r (λ v. val v ≡ lower_bound k w) → IfOk r (λ v. val v ≡ aggregate_value hash t (map f rows) a)
  lower_given n k is k_is e h =
      same_value r (lower_bound k w) (aggregate_value hash t (map f rows) a)
      (ap (λ (z : ℕ). lower_bound z w) k_is ∙ ap (lower_bound n) (e ∙ least_is t f rows (byte_order t (state_of t a (bounded_minimum n) is held)) fit) ∙ sym (ap (aggregate_value hash t (map f rows)) is)) h
