use Rattle.std.proofs.Common.{◌≡◌, length, map}
use Rattle.std.specs.Prelude.{IfOk, Result, Ok, Err}
use Rattle.vx_model.specs.TyView.{ty}
use Rattle.vx_model.specs.ChunkData.{cells, row_values}
use Rattle.vx_layout_spec.specs.Rows.{zipped}
use Rattle.vx_aggregate.specs.AggregateView.{aggregate}
use Rattle.vx_zone_map.specs.Columns.{seen_values, column_cells}
use Rattle.vx_zone_map.proofs.TableRows.{as_many, rows_are}
use Rattle.vx_zone_map.proofs.columns.columns_of.Goals as goal

-- what follows of an answer's value
of_ok : {A E : Type 0} (r : Result A E) (P Q : A → Type 0) → ((a : A) → P a → Q a) → IfOk r P → IfOk r Q
of_ok (Ok a) P Q f h = f a h
of_ok (Err e) P Q f h = h

pub with_names-requires : goal.with_names-requires
with_names-requires c =
    rw c.deref.ensures.value
    (as_many (ty c.args.column.now) (map aggregate c.args.aggregates.now) c.args.table c.requires c.whole.ensures c.in-Ok-into_fields.fields.items c.in-Ok.held.items c.in-Ok-into_fields.ensures.fields c.in-Ok.ensures.names)

pub returns-clause-rows : goal.returns-clause-rows
returns-clause-rows c =
    of_ok c.with_names.result (λ v. map column_cells v.items ≡ map cells c.in-Ok-into_fields.fields.items) (λ v. zipped (length (cells c.args.table)) (map seen_values v.items) ≡ row_values c.args.table)
    (λ v h. rows_are (ty c.args.column.now) (map aggregate c.args.aggregates.now) c.args.table c.requires c.whole.ensures c.in-Ok-into_fields.fields.items v.items c.in-Ok-into_fields.ensures.fields h)
    c.with_names.ensures.cells
