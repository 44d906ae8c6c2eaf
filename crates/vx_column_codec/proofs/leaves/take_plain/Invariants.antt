use Rattle.std.proofs.Common.{◌≡◌, ◌-◌, []}
use Rattle.std.specs.Prelude.{false}
use Rattle.vx_byte_reader.specs.Fields.{many_at}
use Rattle.vx_byte_reader.proofs.FieldLoops.{with_front}
use Rattle.vx_cell_codec.specs.Reading.{cell_at}
use Rattle.vx_typed.specs.Typed.{typed_cells}
use Rattle.vx_column_codec.proofs.leaves.take_plain.Given as goal

abbrev pub invariant-loop : goal.invariant-loop
invariant-loop g l = with_front (typed_cells g.T.Leaf.as_cell l.items.items []) (many_at (cell_at (g.T.Leaf.kind false)) (l.rows - l.counter) l.rest) ≡ many_at (cell_at (g.T.Leaf.kind false)) l.rows l.bytes
