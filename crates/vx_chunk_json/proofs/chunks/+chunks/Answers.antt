use Rattle.std.proofs.Common.{◌<◌, length, map, arith}
use Rattle.std.proofs.lemmas.Result.{err_from_is_err_and}
use Rattle.serde_json.specs.View.{items_view}
use Rattle.vx_model.specs.Ty.{tys_of}
use Rattle.vx_model.specs.TyView.{ty, field_ty}
use Rattle.vx_json.specs.Lists.{each}
use Rattle.vx_chunk_json.specs.Chunks.{chunk_of, columns_in}
use Rattle.vx_json.proofs.Items.{each_stops}
use Rattle.vx_chunk_json.proofs.ChunkSteps.{columns_go_on, columns_stop}
use Rattle.vx_chunk_json.proofs.chunks.+chunks.Goals as goal

pub read_chunks-returns-in_err-chunk_from : goal.read_chunks-returns-in_err-chunk_from
read_chunks-returns-in_err-chunk_from t c =
    let p = err_from_is_err_and c.from_residual-in_err-chunk_from.result c.from_residual-in_err-chunk_from.ensures.1 in
    rw (p.1, p.2) (each_stops c.in_err-chunk_from.field-0.0 (chunk_of (ty c.args.dtype.now)) c.args.values.now c.loop-value.value-index c.value-item.result c.loop-value.parts.items (each (chunk_of (ty c.args.dtype.now)) (items_view c.args.values.now)) c.loop-value-test.true c.value-item.is c.in_err-chunk_from.ensures c.loop-value.invariant)

pub read_columns-returns-in_err-chunk_from : goal.read_columns-returns-in_err-chunk_from
read_columns-returns-in_err-chunk_from t c =
    let p = err_from_is_err_and c.from_residual-in_err-chunk_from.result c.from_residual-in_err-chunk_from.ensures.1 in
    let more : c.loop-i.i < length c.args.values.now = omega (arith, c.loop-i-test.true, c.if-types-values.false) in
    rw (p.1, p.2) (columns_stop c.in_err-chunk_from.field-0.0 c.args.types.now c.args.values.now c.loop-i.i c.index-types-i.result c.index-values-i.result c.loop-i.columns.items (columns_in (tys_of (map field_ty c.args.types.now)) (items_view c.args.values.now)) c.loop-i-test.true more c.index-values-i.is c.in_err-chunk_from.ensures c.loop-i.invariant)

pub read_columns-loop-i-preserved : goal.read_columns-loop-i-preserved
read_columns-loop-i-preserved t c =
    let more : c.loop-i.i < length c.args.values.now = omega (arith, c.loop-i-test.true, c.if-types-values.false) in
    rw c.in_ok-push.ensures.items (columns_go_on c.args.types.now c.args.values.now c.loop-i.i c.index-types-i.result c.index-values-i.result c.loop-i.columns.items c.in_ok-chunk_from.field-0 (columns_in (tys_of (map field_ty c.args.types.now)) (items_view c.args.values.now)) c.loop-i-test.true more c.index-values-i.is c.in_ok-chunk_from.ensures c.loop-i.invariant)
