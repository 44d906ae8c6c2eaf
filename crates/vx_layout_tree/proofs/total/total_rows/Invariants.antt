use Rattle.std.proofs.Common.{◌≡◌, ◌-◌, ◌*◌, ◌^◌, ◌≤◌, take}
use Rattle.vx_model.specs.Words.{total_by}
use Rattle.vx_session.specs.Made.{kid_rows}
use Rattle.vx_layout_tree.specs.KidsView.{layout_kids}
use Rattle.vx_layout_tree.proofs.total.total_rows.Given as goal

abbrev pub invariant-loop-i : goal.invariant-loop-i
invariant-loop-i l = record {
  sum : l.rows ≡ total_by kid_rows (take l.i (layout_kids l.children));
  most : l.rows ≤ l.i * (2 ^ 64 - 1);
}
