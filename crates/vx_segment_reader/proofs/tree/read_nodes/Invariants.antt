use Rattle.std.proofs.Common.{◌≡◌, ◌-◌, ◌+◌, ◌*◌, ◌≤◌, ◌^◌, length, map}
use Rattle.vx_segment_spec.specs.Reading.{nodes_at}
use Rattle.vx_segment_reader.specs.Views.{head}
use Rattle.vx_byte_reader.proofs.PlaceLoops.{with_front}
use Rattle.vx_segment_reader.proofs.tree.read_nodes.Given as goal

abbrev pub invariant-loop : goal.invariant-loop
invariant-loop l = record {
  read : with_front (map head l.nodes.items) (nodes_at (length l.bytes - l.counter) l.pending l.stop l.rest) ≡ nodes_at (length l.bytes) 1 l.stop l.bytes;
  bounded : l.pending ≤ 2 ^ 64 * l.counter + 1;
}
