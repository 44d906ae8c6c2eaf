use Rattle.std.proofs.Common.{◌≡◌, ◌+◌, ◌-◌, ◌*◌, map}
use Rattle.vx_layout_bytes.specs.Reading.{node_at, many_nodes}
use Rattle.vx_layout_bytes.specs.Views.{raw}
use Rattle.vx_layout_bytes.proofs.Loops.{with_nodes}
use Rattle.vx_layout_bytes.proofs.read.+reading.Given as goal

abbrev pub decreases-node_at : goal.decreases-node_at
decreases-node_at l = 2 * l.depth

abbrev pub decreases-nodes_at : goal.decreases-nodes_at
decreases-nodes_at l = 2 * l.depth + 1

abbrev pub invariant-nodes_at-loop : goal.invariant-nodes_at-loop
invariant-nodes_at-loop l = with_nodes (map raw l.nodes.items) (many_nodes (node_at l.depth l.stop) (l.count - l.counter) l.left l.bytes) ≡ many_nodes (node_at l.depth l.stop) l.count l.fn.left l.fn.bytes
