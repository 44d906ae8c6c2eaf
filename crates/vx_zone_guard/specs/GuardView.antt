-- A guard of zones as contracts see it.
use Rattle.std.specs.Prelude.{◌≡◌, ℕ, zero, suc, true, List, map, refl}
use Rattle.std.specs.Global.{Vec}
use Rattle.std.specs.Coded.{Coded, code_by, coded×, coded_ℕ, coded_list}
use base.Stored.{Gv}
use denote.Struct.Codes.{itself}
use Rattle.vx_model.specs.declared.dtype.DType.{DType}
use Rattle.vx_model.specs.declared.row_value.Value.{Value}
use Rattle.vx_model.specs.Words.{all_by}
use Rattle.vx_model.specs.Ty.{Ty}
use Rattle.vx_model.specs.TyView.{ty}
use Rattle.vx_model.specs.TreeView.{val}
use Rattle.vx_model.specs.ValueData.{ValueData}
use Rattle.vx_model.specs.Codes.{ty_code, ty_of, ty_back}
use Rattle.vx_aggregate_spec.specs.Aggregate.{Aggregate, maximum, minimum, bounded_maximum, bounded_minimum, null_count, sum, bloom, Column, held_aggregates}
use Rattle.vx_aggregate.specs.declared.aggregate.AggregateFn.{AggregateFn}
use Rattle.vx_aggregate.specs.AggregateView.{aggregate}
use Rattle.vx_zone_record_spec.specs.Held.{has_state}
use Rattle.vx_turn_laws.specs.Guard.{Guard}

abbrev pub guard_view : DType → ℕ → List AggregateFn → ℕ → Guard
guard_view dtype zone_len aggregates last = record { typed = ty dtype; zone_len = zone_len; columns = held_aggregates (map aggregate aggregates) (ty dtype); last = last }

-- the type can hold the aggregates
abbrev pub Stands : DType → List AggregateFn → Type 0
Stands dtype aggregates = all_by (has_state (ty dtype)) (map aggregate aggregates) ≡ true

abbrev pub values_of : Vec Value → List ValueData
values_of v = map val v.items

-- ---- as trees of numbers

-- its place in the order of `Aggregate`, and its bytes or blocks
abbrev pub aggregate_numbers : Aggregate → ℕ × ℕ
aggregate_numbers maximum = (0, 0)
aggregate_numbers minimum = (1, 0)
aggregate_numbers (bounded_maximum n) = (2, n)
aggregate_numbers (bounded_minimum n) = (3, n)
aggregate_numbers null_count = (4, 0)
aggregate_numbers sum = (5, 0)
aggregate_numbers (bloom n) = (6, n)

abbrev pub aggregate_by : ℕ → ℕ → Aggregate
aggregate_by zero n = maximum
aggregate_by (suc zero) n = minimum
aggregate_by (suc (suc zero)) n = bounded_maximum n
aggregate_by (suc (suc (suc zero))) n = bounded_minimum n
aggregate_by (suc (suc (suc (suc zero)))) n = null_count
aggregate_by (suc (suc (suc (suc (suc zero))))) n = sum
aggregate_by (suc (suc (suc (suc (suc (suc k)))))) n = bloom n

pub aggregate_back : (a : Aggregate) → aggregate_by (aggregate_numbers a).0 (aggregate_numbers a).1 ≡ a
aggregate_back maximum = refl
aggregate_back minimum = refl
aggregate_back (bounded_maximum n) = refl
aggregate_back (bounded_minimum n) = refl
aggregate_back null_count = refl
aggregate_back sum = refl
aggregate_back (bloom n) = refl

abbrev pub aggregate_code : Coded Aggregate
aggregate_code = code_by (ℕ × ℕ) (coded× coded_ℕ coded_ℕ) aggregate_numbers (λ p. aggregate_by p.0 p.1) aggregate_back

abbrev pub type_code : Coded Ty
type_code = code_by Gv itself ty_code ty_of ty_back

abbrev pub guard_code : Coded Guard
guard_code =
    code_by (Ty × (ℕ × (List Column × ℕ))) (coded× type_code (coded× coded_ℕ (coded× (coded_list (coded× aggregate_code type_code)) coded_ℕ)))
    (λ g. (g.typed, (g.zone_len, (g.columns, g.last)))) (λ p. record { typed = p.0; zone_len = p.1.0; columns = p.1.1.0; last = p.1.1.1 }) (λ _. refl)
