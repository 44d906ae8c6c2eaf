use Rattle.std.proofs.Common.{◌≡◌, drop}
use Rattle.serde_json.specs.View.{items_view}
use Rattle.vx_json.specs.Values.{whole}
use Rattle.vx_json.specs.Lists.{each}
use Rattle.vx_json.proofs.Items.{with_front}
use Rattle.vx_json.proofs.lists.read_numbers.Given as goal

abbrev pub invariant-loop-item : goal.invariant-loop-item
invariant-loop-item l = with_front l.numbers.items (each whole (items_view (drop l.item-index l.items))) ≡ each whole (items_view l.items)
