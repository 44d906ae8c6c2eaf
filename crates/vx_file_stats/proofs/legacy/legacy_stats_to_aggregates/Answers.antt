use Rattle.std.proofs.Common.{map}
use Rattle.vx_model.specs.TyView.{ty}
use Rattle.vx_aggregate.specs.AggregateView.{aggregate}
use Rattle.vx_file_stats.proofs.LegacySteps.{makes_table}
use Rattle.vx_file_stats.proofs.legacy.legacy_stats_to_aggregates.Goals as goal

pub table_of-requires : goal.table_of-requires
table_of-requires c =
    makes_table (ty c.args.column_dtype.now) c.args.stats.now c.args.table.now c.in_ok-fields.fields.items c.in_ok-columns.columns.items (map aggregate c.in-Ok.aggregates.items) c.len.result
    c.requires c.sound.ensures c.in_ok-fields.ensures.fields c.in_ok-columns.ensures c.in-Ok.ensures c.len.ensures.rows
