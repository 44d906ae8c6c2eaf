use Rattle.std.proofs.Common.{◌≡◌, ◌-◌, suc}
use Rattle.vx_byte_reader.specs.Fields.{many_at}
use Rattle.vx_cell_codec.specs.Reading.{number_at}
use Rattle.vx_byte_reader.proofs.FieldLoops.{with_front}
use Rattle.vx_cell_codec.proofs.columns.next_offsets.Given as goal

abbrev pub invariant-loop : goal.invariant-loop
invariant-loop l = with_front l.offsets.items (many_at number_at (l.rows - l.counter) l.rest) ≡ many_at number_at (suc l.rows) l.bytes
