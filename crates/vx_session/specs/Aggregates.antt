-- What reading aggregates answers.
use Rattle.std.specs.Prelude.{◌≡◌, ℕ, true, false, List, map, Option, Some, None, Result, Ok, Err}
use Rattle.std.specs.Global.{Vec}
use Rattle.vx_layout_spec.specs.Refusal.{Refusal, unknown_aggregate}
use Rattle.vx_aggregate_spec.specs.Aggregate.{Aggregate, aggregate_of}
use Rattle.vx_aggregate.specs.AggregateView.{aggregate}
use Rattle.vx_aggregate.specs.declared.aggregate.AggregateFn.{AggregateFn}
use Rattle.vx_aggregate.specs.declared.spec.SpecError.{SpecError}
use Rattle.vx_aggregate.specs.declared.spec.SpecError.TheVariants as spec_errors
use Rattle.vx_session.specs.declared.aggregates.AggregatesError.{AggregatesError}
use Rattle.vx_session.specs.declared.aggregates.AggregatesError.TheVariants as errors
use Rattle.vx_session.specs.Kinds.{names_aggregate}

-- the aggregate of this id with these options; an id that none has; options that none of the id has
abbrev pub IsNamed : List ℕ → List ℕ → Result AggregateFn SpecError → Type 0
IsNamed id options (Ok f) = (names_aggregate id ≡ true) × (aggregate_of (record { id = id; options = options }) ≡ Some (aggregate f))
IsNamed id options (Err spec_errors.UnknownAggregate) = names_aggregate id ≡ false
IsNamed id options (Err spec_errors.Options) = (names_aggregate id ≡ true) × (aggregate_of (record { id = id; options = options }) ≡ None)

-- the same refusal; memory may run out
abbrev pub Fails : {A : Type 0} → AggregatesError → Result A Refusal → Type 0
Fails (errors.UnknownAggregate id) read = read ≡ Err (unknown_aggregate id)
Fails errors.OutOfMemory read = Unit {0}

-- What was read, seen by `view`, is what reading gives, unless memory ran out.
abbrev pub Gives : {X A : Type 0} → (X → A) → Result X AggregatesError → Result A Refusal → Type 0
Gives view (Ok x) read = read ≡ Ok (view x)
Gives view (Err e) read = Fails e read

abbrev pub each_aggregate : Vec AggregateFn → List Aggregate
each_aggregate v = map aggregate v.items

abbrev pub all_named : Option (Vec AggregateFn) → Option (List Aggregate)
all_named None = None
all_named (Some v) = Some (each_aggregate v)
