use Rattle.std.proofs.Common.{◌≡◌, ◌++◌, drop}
use Rattle.std.specs.Vec.Iter.{into_iter_items}
use Rattle.vx_model.specs.TyView.{ty}
use Rattle.vx_file_stats.specs.Legacy.{legacy_columns}
use Rattle.vx_file_stats.proofs.legacy.kept_columns.Given as goal

abbrev pub invariant-loop-stat : goal.invariant-loop-stat
invariant-loop-stat l =
    l.columns.items ++ legacy_columns (ty l.column_dtype) (drop l.stat-index l.stats) (into_iter_items l.rest) ≡ legacy_columns (ty l.column_dtype) l.stats l.fn.fields.items
