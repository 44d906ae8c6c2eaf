use Rattle.std.proofs.Common.{◌≡◌, ◌-◌}
use Rattle.vx_byte_reader.specs.Fields.{flag_at, many_at}
use Rattle.vx_byte_reader.proofs.FieldLoops.{with_front}
use Rattle.vx_cell_codec.proofs.columns.next_flags.Given as goal

abbrev pub invariant-loop : goal.invariant-loop
invariant-loop l = with_front l.flags.items (many_at flag_at (l.rows - l.counter) l.rest) ≡ many_at flag_at l.rows l.bytes
