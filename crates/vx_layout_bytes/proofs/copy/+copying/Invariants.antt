use Rattle.std.proofs.Common.{◌≡◌, map, take}
use Rattle.vx_layout_bytes.specs.Views.{raw}
use Rattle.vx_layout_bytes.proofs.copy.+copying.Given as goal

abbrev pub invariant-copy_nodes-loop-node : goal.invariant-copy_nodes-loop-node
invariant-copy_nodes-loop-node l = map raw l.copies.items ≡ map raw (take l.node-index l.nodes.items)
