use Rattle.std.proofs.Common.{◌≡◌, ◌-◌}
use Rattle.std.specs.Int.{w64}
use Rattle.vx_byte_reader.specs.Places.{many_at}
use Rattle.vx_segment_spec.specs.Reading.{number_at}
use Rattle.vx_byte_reader.proofs.PlaceLoops.{with_front}
use Rattle.vx_segment_reader.proofs.tree.lengths_at.Given as goal

abbrev pub invariant-loop : goal.invariant-loop
invariant-loop l = with_front l.lengths.items (many_at (number_at w64 l.stop) (l.count - l.counter) l.rest) ≡ many_at (number_at w64 l.stop) l.count l.bytes
