use Rattle.std.proofs.Common.{◌≡◌, ◌++◌, map, drop}
use Rattle.vx_model.specs.TyView.{ty}
use Rattle.vx_aggregate.specs.AggregateView.{aggregate}
use Rattle.vx_file_stats.specs.Legacy.{legacy_aggregates}
use Rattle.vx_file_stats.proofs.legacy.kept_aggregates.Given as goal

abbrev pub invariant-loop-stat : goal.invariant-loop-stat
invariant-loop-stat l = map aggregate l.aggregates.items ++ legacy_aggregates (ty l.column_dtype) (drop l.stat-index l.stats) ≡ legacy_aggregates (ty l.column_dtype) l.stats
