use Rattle.std.proofs.Common.{◌≡◌, ◌++◌, true, map}
use Rattle.std.specs.Vec.Iter.{into_iter_items}
use Rattle.vx_model.specs.Words.{all_by}
use Rattle.vx_model.specs.TyView.{field_ty}
use Rattle.vx_aggregate.specs.AggregateView.{aggregate}
use Rattle.vx_zone_spec.specs.ZoneTable.{table_columns}
use Rattle.vx_zone_table.specs.Columns.{filled_column}
use Rattle.vx_zone_table.specs.Gathered.{aggregates_in}
use Rattle.vx_zone_table.specs.Parts.{column_fits, column_names}
use Rattle.vx_zone_table.proofs.parts.parts_of.Given as goal

abbrev pub invariant-loop-column : goal.invariant-loop-column
invariant-loop-column l = record {
  fit : all_by column_fits (map filled_column (into_iter_items l.column-iterator)) ≡ true;
  aggregates : map aggregate l.parts.aggregates.items ++ aggregates_in (map filled_column (into_iter_items l.column-iterator)) ≡ aggregates_in (map filled_column l.fn.columns.items);
  fields : map field_ty l.parts.fields.items ++ column_names (map filled_column (into_iter_items l.column-iterator)) ≡ column_names (map filled_column l.fn.columns.items);
  chunks : l.parts.chunks.items ++ table_columns (map filled_column (into_iter_items l.column-iterator)) ≡ table_columns (map filled_column l.fn.columns.items);
}
