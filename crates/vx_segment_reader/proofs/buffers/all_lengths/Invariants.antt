use Rattle.std.proofs.Common.{◌≡◌, ◌++◌, drop, map}
use Rattle.vx_segment_spec.specs.Segment.{lengths_of}
use Rattle.vx_segment_reader.specs.Views.{head}
use Rattle.vx_segment_reader.proofs.buffers.all_lengths.Given as goal

abbrev pub invariant-loop-node : goal.invariant-loop-node
invariant-loop-node l = l.lengths.items ++ lengths_of (map head (drop l.node-index l.nodes)) ≡ lengths_of (map head l.nodes)
