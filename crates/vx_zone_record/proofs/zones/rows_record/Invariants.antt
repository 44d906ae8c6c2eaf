use Rattle.std.proofs.Common.{◌≡◌, ◌++◌, true, map, drop}
use Rattle.vx_hash.specs.XxHash3.{xxhash3_64}
use Rattle.vx_model.specs.Words.{all_by}
use Rattle.vx_model.specs.TyView.{ty}
use Rattle.vx_model.specs.TreeView.{val}
use Rattle.vx_aggregate.specs.AggregateView.{aggregate}
use Rattle.vx_zone_record_spec.specs.Held.{has_state}
use Rattle.vx_zone_record.proofs.StateFits.{values_of}
use Rattle.vx_zone_record.proofs.zones.rows_record.Given as goal

abbrev pub invariant-loop-aggregate : goal.invariant-loop-aggregate
invariant-loop-aggregate g l = record {
  held : all_by (has_state (ty l.column)) (map aggregate (drop l.aggregate-index l.aggregates)) ≡ true;
  values : map val l.folded.items ++ values_of xxhash3_64 (ty l.column) (map g.R.Row.seen l.rows) (map aggregate (drop l.aggregate-index l.aggregates))
      ≡ values_of xxhash3_64 (ty l.column) (map g.R.Row.seen l.rows) (map aggregate l.aggregates);
}
