use Rattle.std.proofs.Common.{◌≡◌, ◌++◌, take, drop, map}
use Rattle.vx_model.specs.TreeView.{val}
use Rattle.vx_layout_spec.specs.Rows.{kept_rows}
use Rattle.vx_read.proofs.structs.hide.Given as goal

abbrev pub invariant-loop-i : goal.invariant-loop-i
invariant-loop-i l = map val (take l.i l.rows) ++ kept_rows (map val (drop l.i l.flags)) (map val (drop l.i l.rows)) ≡ kept_rows (map val l.flags) (map val l.fn.rows)
