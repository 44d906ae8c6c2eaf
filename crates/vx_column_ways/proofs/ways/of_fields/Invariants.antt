use Rattle.std.proofs.Common.{◌≡◌, ◌||◌, drop, map}
use Rattle.vx_model.specs.Ty.{tys_of}
use Rattle.vx_model.specs.TyView.{field_ty}
use Rattle.vx_strategy.specs.FieldWays.{field_ways}
use Rattle.vx_column_plan.specs.Columns.{columns_by, field_columns}
use Rattle.vx_column_ways.specs.Ways.{before}
use Rattle.vx_column_ways.proofs.ways.of_fields.Given as goal

abbrev pub invariant-loop-field : goal.invariant-loop-field
invariant-loop-field l =
    before l.ways.items (field_columns l.strategy.default.item (field_ways l.strategy.writers.items) (l.marked || l.nullable) (tys_of (map field_ty (drop l.field-index l.fields))))
    ≡ columns_by l.strategy.validity.item l.strategy.default.item (field_ways l.strategy.writers.items) l.marked (tys_of (map field_ty l.fields)) l.nullable
