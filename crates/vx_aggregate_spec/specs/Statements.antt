-- What is said of every aggregate.
use Rattle.std.specs.Prelude.{◌≡◌, true, Some}
use Rattle.vx_aggregate_spec.specs.Aggregate.{Aggregate, has_options, aggregate_of, spec}

-- An aggregate is read from its spec.
abbrev pub SpecsAreRead : Type 0
SpecsAreRead = (a : Aggregate) → has_options a ≡ true → aggregate_of (spec a) ≡ Some a
