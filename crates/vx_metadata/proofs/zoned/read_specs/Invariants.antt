use Rattle.std.proofs.Common.{◌≡◌, ◌-◌, map}
use Rattle.vx_byte_reader.specs.Fields.{many_at}
use Rattle.vx_byte_reader.proofs.FieldLoops.{with_front}
use Rattle.vx_metadata.specs.Reading.{spec_at}
use Rattle.vx_metadata.specs.Views.{spec_of}
use Rattle.vx_metadata.proofs.zoned.read_specs.Given as goal

abbrev pub invariant-loop : goal.invariant-loop
invariant-loop l = with_front (map spec_of l.specs.items) (many_at spec_at (l.count - l.counter) l.rest) ≡ many_at spec_at l.count l.bytes
