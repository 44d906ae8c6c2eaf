use Rattle.std.proofs.Common.{◌≡◌, drop}
use Rattle.vx_session.specs.Made.{all_have_rows}
use Rattle.vx_layout_tree.specs.KidsView.{layout_kids}
use Rattle.vx_layout_build.proofs.checks.all_have_rows.Given as goal

abbrev pub invariant-loop-i : goal.invariant-loop-i
invariant-loop-i l = all_have_rows l.needs (drop l.i (layout_kids l.children)) ≡ all_have_rows l.needs (layout_kids l.children)
