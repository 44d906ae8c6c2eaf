use Rattle.std.proofs.Common.{◌≡◌, ◌++◌, map, drop}
use Rattle.vx_model.specs.Words.{joined_by}
use Rattle.vx_model.specs.TyView.{ty, field_ty}
use Rattle.vx_aggregate.specs.Tables.{stat_fields}
use Rattle.vx_aggregate.proofs.table.legacy_stats_table_dtype.Given as goal

abbrev pub invariant-loop-stat : goal.invariant-loop-stat
invariant-loop-stat l =
    map field_ty l.fields.items ++ joined_by (stat_fields (ty l.column)) (drop l.stat-index l.stats) ≡ joined_by (stat_fields (ty l.column)) l.stats
