use Rattle.std.proofs.Common.{◌≡◌, ◌++◌, map, drop}
use Rattle.vx_layout_bytes.specs.Node.{nodes_of}
use Rattle.vx_layout_bytes.specs.Spelled.{spellings}
use Rattle.vx_layout_bytes.specs.Views.{raw}
use Rattle.vx_layout_bytes.proofs.write.+writing.Given as goal

abbrev pub invariant-push_nodes-loop-node : goal.invariant-push_nodes-loop-node
invariant-push_nodes-loop-node l = l.out.items ++ spellings (nodes_of (map raw (drop l.node-index l.nodes))) ≡ l.fn.out.items ++ spellings (nodes_of (map raw l.nodes))
