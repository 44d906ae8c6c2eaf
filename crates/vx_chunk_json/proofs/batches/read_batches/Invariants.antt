use Rattle.std.proofs.Common.{◌≡◌, drop}
use Rattle.serde_json.specs.View.{items_view}
use Rattle.vx_model.specs.TyView.{ty}
use Rattle.vx_json.specs.Lists.{each}
use Rattle.vx_chunk_json.specs.Chunks.{batch_of}
use Rattle.vx_json.proofs.Items.{with_front}
use Rattle.vx_chunk_json.proofs.batches.read_batches.Given as goal

abbrev pub invariant-loop-value : goal.invariant-loop-value
invariant-loop-value l = with_front l.batches.items (each (batch_of (ty l.schema)) (items_view (drop l.value-index l.values))) ≡ each (batch_of (ty l.schema)) (items_view l.values)
