use Rattle.std.proofs.Common.{◌≡◌, drop}
use Rattle.serde_json.specs.View.{items_view}
use Rattle.vx_json.specs.Lists.{each}
use Rattle.vx_job.specs.JobParts.{encoding_of}
use Rattle.vx_json.proofs.Items.{with_front}
use Rattle.vx_job.proofs.values.read_ids.Given as goal

abbrev pub invariant-loop-item : goal.invariant-loop-item
invariant-loop-item l = with_front l.ids.items (each encoding_of (items_view (drop l.item-index l.items))) ≡ each encoding_of (items_view l.items)
