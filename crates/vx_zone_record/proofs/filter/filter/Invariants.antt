use Rattle.std.proofs.Common.{◌≡◌, true, [], map, drop}
use Rattle.std.specs.Int.NonZero.{non_zero_u32_get}
use Rattle.vx_hash.specs.XxHash3.{xxhash3_64}
use Rattle.vx_model.specs.Words.{all_by}
use Rattle.vx_model.specs.TyView.{ty}
use Rattle.vx_model.specs.ValueData.{is_row_value}
use Rattle.vx_bloom_spec.specs.Filter.{filter_of}
use Rattle.vx_bloom_spec.specs.Values.{value_hashes, all_inserted}
use Rattle.vx_zone_record.proofs.filter.filter.Given as goal

abbrev pub invariant-loop-row : goal.invariant-loop-row
invariant-loop-row g l = record {
  fit : all_by (is_row_value (ty l.column)) (map g.R.Row.seen (drop l.row-index l.rows)) ≡ true;
  same : all_inserted l.partial (value_hashes xxhash3_64 (ty l.column) (map g.R.Row.seen (drop l.row-index l.rows)))
      ≡ all_inserted (filter_of (non_zero_u32_get l.fn.blocks) []) (value_hashes xxhash3_64 (ty l.column) (map g.R.Row.seen l.rows));
}
