use Rattle.std.proofs.Common.{◌≡◌, drop, map}
use Rattle.vx_layout_bytes.specs.Node.{nodes_of}
use Rattle.vx_layout_bytes.specs.Views.{raw}
use Rattle.vx_session.specs.Builder.{unknown_among}
use Rattle.vx_layout_build.proofs.foreign_nodes.+unknown.Given as goal

abbrev pub invariant-unknown_among-loop-node : goal.invariant-unknown_among-loop-node
invariant-unknown_among-loop-node l = unknown_among l.ids (nodes_of (map raw (drop l.node-index l.nodes))) ≡ unknown_among l.ids (nodes_of (map raw l.nodes))
