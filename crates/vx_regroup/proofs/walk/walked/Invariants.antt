use Rattle.std.proofs.Common.{◌≡◌, ◌≤◌, ◌-◌, ◌+◌, ◌*◌, [], ◌∷◌, ◌++◌, length}
use Rattle.vx_model.specs.TyView.{ty}
use Rattle.vx_column.specs.ColumnView.{column_cells}
use Rattle.vx_rules.specs.Blocks.{block_sizes as sizes_of, tested_sizes as tests_of, check_points, steps}
use Rattle.vx_regroup.specs.Refusals.{first_past}
use Rattle.vx_regroup.specs.Walks.{Stands, sizes_with, past_with}
use Rattle.vx_regroup.proofs.walk.walked.Given as goal

abbrev pub invariant-loop-k : goal.invariant-loop-k
invariant-loop-k l = record {
  stands : Stands (ty l.dtype) (column_cells l.column) l.walk.sizes.items l.walk.cut l.walk.seen l.walk.total;
  bound : l.walk.seen + l.len * (l.inner - l.k) ≤ length (column_cells l.column);
  sizes : sizes_with l.len l.minimum (ty l.dtype) (column_cells l.column) l.walk.sizes.items l.walk.cut (steps l.walk.seen l.len (l.inner - l.k) ++ (length (column_cells l.column) ∷ []))
      ≡ sizes_of l.len l.minimum (ty l.dtype) 0 (column_cells l.column) (check_points l.len l.held (length (column_cells l.column) - l.held));
  past : past_with l.len l.minimum (ty l.dtype) (column_cells l.column) l.walk.cut (steps l.walk.seen l.len (l.inner - l.k) ++ (length (column_cells l.column) ∷ []))
      ≡ first_past (tests_of l.len l.minimum (ty l.dtype) 0 (column_cells l.column) (check_points l.len l.held (length (column_cells l.column) - l.held)));
}
