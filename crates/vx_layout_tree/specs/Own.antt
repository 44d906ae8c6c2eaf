-- What layouts of one kind have of their own.
use Rattle.std.specs.Prelude.{ℕ, ◌==◌, Bool, false, if◌then◌else◌, List, [], ◌∷◌, ◌++◌}
use Rattle.vx_layout_spec.specs.LayoutTree.{Spec, Kind, dict_kind, zoned_kind, stats_kind}
use Rattle.vx_aggregate_spec.specs.Aggregate.{Aggregate, maximum, minimum, null_count, sum}

abbrev pub all_referenced : Kind → Bool
all_referenced (dict_kind all) = all
all_referenced k = false

-- a table of which an aggregate isn't known has the zone length 0, and no aggregates
abbrev pub zone_length : Kind → ℕ
zone_length (zoned_kind zone_len specs) = zone_len
zone_length k = 0

abbrev pub aggregate_specs : Kind → List Spec
aggregate_specs (zoned_kind zone_len specs) = specs
aggregate_specs k = []

-- the aggregate of the statistic's number, where it has one
abbrev pub numbered : ℕ → List Aggregate
numbered n =
    if n == 0 then maximum ∷ [] else if n == 1 then minimum ∷ [] else if n == 2 then sum ∷ [] else if n == 3 then null_count ∷ [] else []

abbrev pub all_numbered : List ℕ → List Aggregate
all_numbered [] = []
all_numbered (n ∷ ns) = numbered n ++ all_numbered ns

-- those of the statistics
abbrev pub stat_aggregates : Kind → List Aggregate
stat_aggregates (stats_kind zone_len stats) = all_numbered stats
stat_aggregates k = []
