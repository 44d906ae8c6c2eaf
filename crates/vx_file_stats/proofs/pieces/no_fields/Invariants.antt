use Rattle.std.proofs.Common.{◌≡◌, ◌++◌, map, drop}
use Rattle.vx_model.specs.Ty.{tys_of}
use Rattle.vx_model.specs.TyView.{field_ty}
use Rattle.vx_file_stats.specs.FileStats.{types_in}
use Rattle.vx_file_stats.specs.Gathering.{column_data, no_column}
use Rattle.vx_file_stats.proofs.pieces.no_fields.Given as goal

abbrev pub invariant-loop-field : goal.invariant-loop-field
invariant-loop-field l =
    map column_data l.columns.items ++ map no_column (types_in (tys_of (map field_ty (drop l.field-index l.fields)))) ≡ map no_column (types_in (tys_of (map field_ty l.fields)))
