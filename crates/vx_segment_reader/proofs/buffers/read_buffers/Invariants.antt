use Rattle.std.proofs.Common.{◌≡◌, ◌≤◌, length, drop, map}
use Rattle.vx_segment_spec.specs.Segment.{buffers_at}
use Rattle.vx_segment_reader.proofs.BufferSteps.{with_buffers, place_of_rest}
use Rattle.vx_segment_reader.proofs.buffers.read_buffers.Given as goal

abbrev pub invariant-loop-length : goal.invariant-loop-length
invariant-loop-length l = record {
  read : with_buffers (map (λ b. b.now) l.buffers.items) (buffers_at l.padded (place_of_rest l.bytes l.rest) (drop l.length-index l.lengths) l.rest) ≡ buffers_at l.padded 0 l.lengths l.bytes;
  within : length l.rest ≤ length l.bytes;
}
