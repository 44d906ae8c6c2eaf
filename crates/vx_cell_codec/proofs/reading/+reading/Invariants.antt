use Rattle.std.proofs.Common.{◌≡◌, ◌-◌, map}
use Rattle.vx_model.specs.Ty.{tys_of}
use Rattle.vx_model.specs.TyView.{ty, field_ty}
use Rattle.vx_model.specs.TreeView.{tree}
use Rattle.vx_byte_reader.specs.Fields.{many_at}
use Rattle.vx_cell_codec.specs.Reading.{cell_at, fields_at}
use Rattle.vx_byte_reader.proofs.FieldLoops.{with_front}
use Rattle.vx_cell_codec.proofs.Loops.{rest_at}
use Rattle.vx_cell_codec.proofs.reading.+reading.Given as goal

abbrev pub invariant-next_cells-loop : goal.invariant-next_cells-loop
invariant-next_cells-loop l = with_front (map tree l.cells.items) (many_at (cell_at (ty l.dtype)) (l.count - l.counter) l.rest) ≡ many_at (cell_at (ty l.dtype)) l.count l.bytes

abbrev pub invariant-next_fields-loop-field : goal.invariant-next_fields-loop-field
invariant-next_fields-loop-field l = with_front (map tree l.cells.items) (rest_at l.fields l.field-index l.rest) ≡ fields_at (tys_of (map field_ty l.fields)) l.bytes
