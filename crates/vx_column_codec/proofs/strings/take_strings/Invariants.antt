use Rattle.std.proofs.Common.{◌≡◌, ◌-◌, length}
use Rattle.vx_byte_reader.specs.Fields.{many_at}
use Rattle.vx_byte_reader.proofs.FieldLoops.{with_front}
use Rattle.vx_cell_codec.specs.Reading.{cell_at}
use Rattle.vx_typed.specs.Typed.{typed_cells}
use Rattle.vx_strings.specs.StringCells.{strings_between, string_cell, string_type, Grown}
use Rattle.vx_column_codec.proofs.strings.take_strings.Given as goal

abbrev pub invariant-loop : goal.invariant-loop
invariant-loop l = record {
  read : with_front (typed_cells (string_cell l.kind) (strings_between l.taken.strings.items l.taken.places.items) l.taken.valid.items) (many_at (cell_at (string_type l.kind l.nullable)) (l.rows - l.counter) l.rest)
      ≡ many_at (cell_at (string_type l.kind l.nullable)) l.rows l.bytes;
  grown : Grown l.kind l.taken.strings.items l.taken.places.items;
  flags : length l.taken.valid.items ≡ length (strings_between l.taken.strings.items l.taken.places.items);
}
