use Rattle.std.proofs.Common.{◌≡◌, ◌-◌, length, take, drop, sum}
use Rattle.std.specs.Prelude.{reverse}
use Rattle.vx_model.specs.TyView.{ty}
use Rattle.vx_column.specs.ColumnView.{column_cells}
use Rattle.vx_rules.specs.Blocks.{cut_off}
use Rattle.vx_regroup.proofs.cuts.blocks_of.Given as goal

abbrev pub invariant-loop-k : goal.invariant-loop-k
invariant-loop-k l = record {
  front : column_cells l.front ≡ take (sum (take (length l.sizes - l.k) l.sizes)) (column_cells l.fn.rows);
  blocks : reverse l.blocks.items ≡ cut_off (ty l.dtype) (drop (sum (take (length l.sizes - l.k) l.sizes)) (column_cells l.fn.rows)) (drop (length l.sizes - l.k) l.sizes);
}
