-- Which aggregate an id and option bytes name.
use Rattle.std.specs.Prelude.{◌≡◌, ◌≢◌, ℕ, true, List, Result, Ok, Err}
use Rattle.vx_aggregate_spec.specs.Aggregate.{Aggregate, aggregate_id, option_bytes, has_options}
use Rattle.vx_aggregate.specs.AggregateView.{aggregate}
use Rattle.vx_aggregate.specs.declared.aggregate.AggregateFn.{AggregateFn}
use Rattle.vx_aggregate.specs.declared.spec.SpecError.{SpecError}
use Rattle.vx_aggregate.specs.declared.spec.SpecError.TheVariants.{UnknownAggregate, Options}

-- some aggregate has the id
abbrev pub IsKnown : List ℕ → Type 0
IsKnown id = (a : Aggregate) × (aggregate_id a ≡ id)

-- the aggregate of this id with these options; an id that none has; options that none of the id has
abbrev pub NamesAggregate : List ℕ → List ℕ → Result AggregateFn SpecError → Type 0
NamesAggregate id options (Ok f) = (aggregate_id (aggregate f) ≡ id) × (option_bytes (aggregate f) ≡ options)
NamesAggregate id options (Err UnknownAggregate) = (a : Aggregate) → aggregate_id a ≢ id
NamesAggregate id options (Err Options) = IsKnown id × ((a : Aggregate) → has_options a ≡ true → aggregate_id a ≡ id → option_bytes a ≢ options)
