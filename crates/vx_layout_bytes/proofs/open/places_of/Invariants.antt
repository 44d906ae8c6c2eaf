use Rattle.std.proofs.Common.{◌≡◌, ◌-◌, IsTrue, drop, length, map}
use Rattle.vx_layout_bytes.specs.Reading.{node_at, many_nodes}
use Rattle.vx_layout_bytes.specs.There.{are_nodes_at, node_there}
use Rattle.vx_layout_bytes.proofs.Loops.{with_nodes}
use Rattle.vx_layout_bytes.proofs.open.places_of.Given as goal

abbrev pub invariant-loop : goal.invariant-loop
invariant-loop l = record {
  so_far : with_nodes (map (node_there l.bytes) l.places.items) (many_nodes (node_at (l.stop - 1) l.stop) (l.count - l.counter) l.left l.rest) ≡ many_nodes (node_at (l.stop - 1) l.stop) l.count (l.stop - 1) l.fn.rest;
  there : IsTrue (are_nodes_at l.bytes l.places.items);
  ends : drop (length l.bytes - length l.rest) l.bytes ≡ l.rest;
}
