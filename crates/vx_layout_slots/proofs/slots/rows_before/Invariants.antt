use Rattle.std.proofs.Common.{◌≡◌, take}
use Rattle.vx_model.specs.Words.{total_by}
use Rattle.vx_session.specs.Made.{kid_rows}
use Rattle.vx_layout_tree.specs.KidsView.{layout_kids}
use Rattle.vx_layout_slots.proofs.slots.rows_before.Given as goal

abbrev pub invariant-loop-i : goal.invariant-loop-i
invariant-loop-i l = l.before ≡ total_by kid_rows (take l.i (layout_kids l.children))
