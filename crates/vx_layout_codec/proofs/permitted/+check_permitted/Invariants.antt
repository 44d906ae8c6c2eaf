use Rattle.std.proofs.Common.{◌≡◌, drop}
use Rattle.vx_layout_spec.specs.LayoutTree.{lays_of, children_of}
use Rattle.vx_layout_tree.specs.LayoutView.{layout_data}
use Rattle.vx_layout_tree.specs.LayDepth.{depth}
use Rattle.vx_layout_codec_spec.specs.Permitted.{permitted, all_permitted}
use Rattle.vx_layout_codec.proofs.permitted.+check_permitted.Given as goal

abbrev pub decreases-check_permitted : goal.decreases-check_permitted
decreases-check_permitted l = depth (layout_data l.layout.now)

abbrev pub invariant-loop-i : goal.invariant-loop-i
invariant-loop-i l = permitted l.ctx (layout_data l.layout) ≡ all_permitted l.ctx (lays_of (drop l.i (children_of (layout_data l.layout))))
