use Rattle.std.proofs.Common.{◌≡◌, drop}
use Rattle.serde_json.specs.View.{items_view}
use Rattle.serde_json.specs.Find.{as_str}
use Rattle.vx_json.specs.Lists.{each}
use Rattle.vx_json.proofs.Items.{with_front}
use Rattle.vx_json.proofs.lists.read_texts.Given as goal

abbrev pub invariant-loop-item : goal.invariant-loop-item
invariant-loop-item l = with_front l.texts.items (each as_str (items_view (drop l.item-index l.items))) ≡ each as_str (items_view l.items)
