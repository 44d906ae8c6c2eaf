use Rattle.std.proofs.Common.{◌≡◌, ◌++◌, ◌∷◌, [], ◌<◌, length, map, arith}
use Rattle.std.proofs.lemmas.Result.{err_from_is_err_and}
use Rattle.std.proofs.lemmas.List.{map_push}
use Rattle.serde_json.specs.View.{items_view}
use Rattle.vx_model.specs.Ty.{tys_of}
use Rattle.vx_model.specs.TyView.{ty, field_ty}
use Rattle.vx_model.specs.TreeView.{tree}
use Rattle.vx_json.specs.Lists.{each}
use Rattle.vx_chunk_json.specs.Cells.{cell_of, field_cells}
use Rattle.vx_json.proofs.Items.{each_goes_on}
use Rattle.vx_chunk_json.proofs.CellSteps.{fields_go_on, fields_stop}
use Rattle.vx_chunk_json.proofs.cells.+cells.Goals as goal

pub read_cells-loop-value-preserved : goal.read_cells-loop-value-preserved
read_cells-loop-value-preserved t c =
    let e : map tree c.push.new.self.items ≡ map tree c.loop-value.cells.items ++ tree c.in_ok-cell_from.field-0 ∷ [] = rw c.in_ok-push.ensures.items (map_push _ c.loop-value.cells.items c.in_ok-cell_from.field-0) in
    rw e (each_goes_on (cell_of (ty c.args.dtype.now)) c.args.values.now c.loop-value.value-index c.value-item.result (map tree c.loop-value.cells.items) (tree c.in_ok-cell_from.field-0) (each (cell_of (ty c.args.dtype.now)) (items_view c.args.values.now)) c.loop-value-test.true c.value-item.is c.in_ok-cell_from.ensures c.loop-value.invariant)

pub read_fields-returns-in_err-cell_from : goal.read_fields-returns-in_err-cell_from
read_fields-returns-in_err-cell_from t c =
    let p = err_from_is_err_and c.from_residual-in_err-cell_from.result c.from_residual-in_err-cell_from.ensures.1 in
    let more : c.loop-i.i < length c.args.values.now = omega (arith, c.loop-i-test.true, c.if-fields-values.false) in
    rw (p.1, p.2) (fields_stop c.in_err-cell_from.field-0.0 c.args.fields.now c.args.values.now c.loop-i.i c.index-fields-i.result c.index-values-i.result (map tree c.loop-i.cells.items) (field_cells (tys_of (map field_ty c.args.fields.now)) (items_view c.args.values.now)) c.loop-i-test.true more c.index-values-i.is c.in_err-cell_from.ensures c.loop-i.invariant)

pub read_fields-loop-i-preserved : goal.read_fields-loop-i-preserved
read_fields-loop-i-preserved t c =
    let e : map tree c.push.new.self.items ≡ map tree c.loop-i.cells.items ++ tree c.in_ok-cell_from.field-0 ∷ [] = rw c.in_ok-push.ensures.items (map_push _ c.loop-i.cells.items c.in_ok-cell_from.field-0) in
    let more : c.loop-i.i < length c.args.values.now = omega (arith, c.loop-i-test.true, c.if-fields-values.false) in
    rw e (fields_go_on c.args.fields.now c.args.values.now c.loop-i.i c.index-fields-i.result c.index-values-i.result (map tree c.loop-i.cells.items) (tree c.in_ok-cell_from.field-0) (field_cells (tys_of (map field_ty c.args.fields.now)) (items_view c.args.values.now)) c.loop-i-test.true more c.index-values-i.is c.in_ok-cell_from.ensures c.loop-i.invariant)
