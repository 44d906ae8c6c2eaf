use Rattle.std.proofs.Common.{◌≡◌, drop}
use Rattle.vx_layout_spec.specs.LayoutTree.{lays_of, children_of}
use Rattle.vx_layout_tree.specs.LayoutView.{layout_data}
use Rattle.vx_layout_tree.specs.LayDepth.{depth}
use Rattle.vx_layout_codec_spec.specs.Permitted.{built, all_built}
use Rattle.vx_display.proofs.building.+check_built.Given as goal

abbrev pub decreases-check_built : goal.decreases-check_built
decreases-check_built l = depth (layout_data l.layout.now)

abbrev pub invariant-loop-i : goal.invariant-loop-i
invariant-loop-i l = built (layout_data l.layout) ≡ all_built (lays_of (drop l.i (children_of (layout_data l.layout))))
