-- The type of a table of aggregates.
use Rattle.std.specs.Prelude.{false, List, map}
use Rattle.vx_model.specs.Ty.{Ty, Named, struct, tys_of}
use Rattle.vx_aggregate_spec.specs.Aggregate.{Aggregate, Column, display, held_aggregates}

-- a field of the aggregate's display text and its state type
abbrev pub column_field : Column → Named
column_field c = (display c.0, c.1)

-- a struct with a field for each aggregate that has a state on the column's type
abbrev pub stats_table : Ty → List Aggregate → Ty
stats_table t aggregates = struct (tys_of (map column_field (held_aggregates aggregates t))) false
