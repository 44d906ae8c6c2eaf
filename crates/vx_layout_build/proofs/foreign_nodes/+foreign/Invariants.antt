use Rattle.std.proofs.Common.{◌≡◌, ◌+◌, ◌*◌, take, map}
use Rattle.vx_model.specs.TyView.{ty}
use Rattle.vx_layout_spec.specs.LayoutTree.{lays_of}
use Rattle.vx_layout_bytes.specs.Node.{nodes_of}
use Rattle.vx_layout_bytes.specs.Values.{depth, depths}
use Rattle.vx_layout_bytes.specs.Views.{raw}
use Rattle.vx_session.specs.Builder.{all_foreign}
use Rattle.vx_layout_tree.specs.LayoutView.{layout_data}
use Rattle.vx_layout_build.proofs.foreign_nodes.+foreign.Given as goal

abbrev pub invariant-all_foreign-loop-node : goal.invariant-all_foreign-loop-node
invariant-all_foreign-loop-node l = lays_of (map layout_data l.layouts.items) ≡ all_foreign l.ids (ty l.dtype) (nodes_of (map raw (take l.node-index l.nodes)))

abbrev pub decreases-foreign : goal.decreases-foreign
decreases-foreign l = 2 * depth (raw l.node.now)

abbrev pub decreases-all_foreign : goal.decreases-all_foreign
decreases-all_foreign l = 2 * depths (nodes_of (map raw l.nodes.now)) + 1
