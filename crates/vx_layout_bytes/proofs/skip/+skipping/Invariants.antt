use Rattle.std.proofs.Common.{◌≡◌, ◌+◌, ◌-◌, ◌*◌}
use Rattle.vx_layout_bytes.specs.Reading.{node_at, many_nodes}
use Rattle.vx_layout_bytes.specs.There.{behind}
use Rattle.vx_layout_bytes.proofs.skip.+skipping.Given as goal

abbrev pub decreases-skip_node : goal.decreases-skip_node
decreases-skip_node l = 2 * l.depth

abbrev pub decreases-skip_nodes : goal.decreases-skip_nodes
decreases-skip_nodes l = 2 * l.depth + 1

abbrev pub invariant-skip_nodes-loop : goal.invariant-skip_nodes-loop
invariant-skip_nodes-loop l = behind (many_nodes (node_at l.depth l.stop) (l.count - l.counter) l.left l.bytes) ≡ behind (many_nodes (node_at l.depth l.stop) l.count l.fn.left l.fn.bytes)
