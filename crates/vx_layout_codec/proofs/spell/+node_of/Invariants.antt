use Rattle.std.proofs.Common.{◌≡◌, drop, map}
use Rattle.vx_layout_spec.specs.LayoutTree.{lays_of, children_of}
use Rattle.vx_layout_bytes.specs.Node.{nodes_of}
use Rattle.vx_layout_bytes.specs.Values.{AllFit}
use Rattle.vx_layout_bytes.specs.Views.{raw}
use Rattle.vx_layout_tree.specs.LayoutView.{layout_data}
use Rattle.vx_layout_tree.specs.LayDepth.{depth}
use Rattle.vx_layout_codec_spec.specs.Permitted.{built, all_built}
use Rattle.vx_layout_codec_spec.specs.NodeOf.{nodes_in}
use Rattle.vx_layout_codec.proofs.WalkSteps.{onto}
use Rattle.vx_layout_codec.proofs.spell.+node_of.Given as goal

abbrev pub decreases-node_of : goal.decreases-node_of
decreases-node_of l = depth (layout_data l.layout.now)

abbrev pub invariant-loop-i : goal.invariant-loop-i
invariant-loop-i l = record {
  built : built (layout_data l.layout) ≡ all_built (lays_of (drop l.i (children_of (layout_data l.layout))));
  nodes : onto (map raw l.children.items) (nodes_in l.ctx (lays_of (drop l.i (children_of (layout_data l.layout))))) ≡ nodes_in l.ctx (lays_of (children_of (layout_data l.layout)));
  fits : AllFit (nodes_of (map raw l.children.items));
}
