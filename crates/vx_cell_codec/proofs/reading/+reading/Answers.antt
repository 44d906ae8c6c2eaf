use Rattle.std.proofs.Common.{◌≡◌, ◌++◌, ◌∷◌, [], map}
use Rattle.std.proofs.lemmas.Result.{err_from_is_err_and}
use Rattle.std.proofs.lemmas.List.{map_push}
use Rattle.vx_model.specs.Ty.{tys_of}
use Rattle.vx_model.specs.TyView.{ty, field_ty}
use Rattle.vx_model.specs.TreeView.{tree}
use Rattle.vx_byte_reader.specs.Fields.{many_at}
use Rattle.vx_cell_codec.specs.Reading.{cell_at, fields_at}
use Rattle.vx_byte_reader.proofs.FieldLoops.{many_goes_on, many_done}
use Rattle.vx_cell_codec.proofs.Loops.{many_ends, fields_go_on, fields_end, fields_done}
use Rattle.vx_cell_codec.proofs.reading.+reading.Goals as goal

pub next_cells-returns-in_err-cell : goal.next_cells-returns-in_err-cell
next_cells-returns-in_err-cell t c =
    let p = err_from_is_err_and c.from_residual.result c.from_residual.ensures.1 in
    rw (p.1, p.2) (many_ends c.in_err-cell.field-0.0 (cell_at (ty c.args.dtype.now)) (map tree c.loop.cells.items) c.args.count c.loop.counter c.loop.rest.now (many_at (cell_at (ty c.args.dtype.now)) c.args.count c.args.bytes.now) c.loop-test.true c.in_err-cell.ensures c.loop.invariant)

pub next_cells-loop-preserved : goal.next_cells-loop-preserved
next_cells-loop-preserved t c =
    let e : map tree c.push.new.self.items ≡ map tree c.loop.cells.items ++ tree c.in_ok-cell.cell ∷ [] = rw c.in_ok-push.ensures.items (map_push _ c.loop.cells.items c.in_ok-cell.cell) in
    rw e (many_goes_on (cell_at (ty c.args.dtype.now)) (map tree c.loop.cells.items) c.args.count c.loop.counter c.loop.rest.now (tree c.in_ok-cell.cell) c.in_ok-cell.after.now (many_at (cell_at (ty c.args.dtype.now)) c.args.count c.args.bytes.now) c.loop-test.true c.in_ok-cell.ensures c.loop.invariant)

pub next_cells-returns : goal.next_cells-returns
next_cells-returns t c = many_done (cell_at (ty c.args.dtype.now)) (map tree c.loop.cells.items) c.args.count c.loop.counter c.loop.rest.now (many_at (cell_at (ty c.args.dtype.now)) c.args.count c.args.bytes.now) c.loop-test.false c.loop.invariant

pub next_fields-returns-in_err-cell : goal.next_fields-returns-in_err-cell
next_fields-returns-in_err-cell t c =
    let p = err_from_is_err_and c.from_residual-in_err-cell.result c.from_residual-in_err-cell.ensures.1 in
    rw (p.1, p.2) (fields_end c.in_err-cell.field-0.0 c.args.fields.now (map tree c.loop-field.cells.items) c.loop-field.field-index c.field-item.result c.loop-field.rest.now (fields_at (tys_of (map field_ty c.args.fields.now)) c.args.bytes.now) c.loop-field-test.true c.field-item.is c.in_err-cell.ensures c.loop-field.invariant)

pub next_fields-loop-field-preserved : goal.next_fields-loop-field-preserved
next_fields-loop-field-preserved t c =
    let e : map tree c.push.new.self.items ≡ map tree c.loop-field.cells.items ++ tree c.in_ok-cell.cell ∷ [] = rw c.in_ok-push.ensures.items (map_push _ c.loop-field.cells.items c.in_ok-cell.cell) in
    rw e (fields_go_on c.args.fields.now (map tree c.loop-field.cells.items) c.loop-field.field-index c.field-item.result c.loop-field.rest.now (tree c.in_ok-cell.cell) c.in_ok-cell.after.now (fields_at (tys_of (map field_ty c.args.fields.now)) c.args.bytes.now) c.loop-field-test.true c.field-item.is c.in_ok-cell.ensures c.loop-field.invariant)

pub next_fields-returns : goal.next_fields-returns
next_fields-returns t c = fields_done c.args.fields.now (map tree c.loop-field.cells.items) c.loop-field.field-index c.loop-field.rest.now (fields_at (tys_of (map field_ty c.args.fields.now)) c.args.bytes.now) c.loop-field-test.false c.loop-field.invariant
