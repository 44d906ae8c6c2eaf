use Rattle.std.proofs.lemmas.Result.{err_from_is_err_and}
use Rattle.serde_json.specs.View.{items_view}
use Rattle.vx_model.specs.TyView.{ty}
use Rattle.vx_json.specs.Lists.{each}
use Rattle.vx_chunk_json.specs.Chunks.{batch_of}
use Rattle.vx_json.proofs.Items.{each_stops}
use Rattle.vx_chunk_json.proofs.batches.read_batches.Goals as goal

pub returns-in_err-read_batch : goal.returns-in_err-read_batch
returns-in_err-read_batch c =
    let p = err_from_is_err_and c.from_residual-in_err-read_batch.result c.from_residual-in_err-read_batch.ensures.1 in
    rw (p.1, p.2) (each_stops c.in_err-read_batch.field-0.0 (batch_of (ty c.args.schema.now)) c.args.values.now c.loop-value.value-index c.value-item.result c.loop-value.batches.items (each (batch_of (ty c.args.schema.now)) (items_view c.args.values.now)) c.loop-value-test.true c.value-item.is c.in_err-read_batch.ensures c.loop-value.invariant)
