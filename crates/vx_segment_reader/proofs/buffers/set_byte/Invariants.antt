use Rattle.std.proofs.Common.{◌≡◌, ◌+◌, drop}
use Rattle.vx_segment_spec.specs.Segment.{set_byte}
use Rattle.vx_segment_reader.proofs.buffers.set_byte.Given as goal

abbrev pub invariant-loop-i : goal.invariant-loop-i
invariant-loop-i l = set_byte (l.at + l.i) (drop l.i l.bytes) ≡ set_byte l.at l.bytes
