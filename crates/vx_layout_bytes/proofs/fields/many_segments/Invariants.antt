use Rattle.std.proofs.Common.{◌≡◌, ◌-◌}
use Rattle.std.specs.Int.{w32}
use Rattle.vx_byte_reader.specs.Places.{many_at}
use Rattle.vx_byte_reader.proofs.PlaceLoops.{with_front}
use Rattle.vx_layout_bytes.specs.Reading.{number_at}
use Rattle.vx_layout_bytes.proofs.fields.many_segments.Given as goal

abbrev pub invariant-loop : goal.invariant-loop
invariant-loop l = with_front l.segments.items (many_at (number_at w32 l.stop) (l.count - l.counter) l.bytes) ≡ many_at (number_at w32 l.stop) l.count l.fn.bytes
