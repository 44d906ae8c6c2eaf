use Rattle.std.proofs.Common.{◌≡◌, ◌+◌, ◌*◌, drop, map}
use Rattle.serde_json.specs.View.{view, items_view, members_view}
use Rattle.vx_model.specs.TyView.{field_ty}
use Rattle.vx_json.specs.Lists.{each}
use Rattle.vx_chunk_json.specs.Types.{field_of}
use Rattle.vx_json.proofs.Items.{with_front}
use Rattle.vx_chunk_json.proofs.Sizes.{size, items_size, members_size}
use Rattle.vx_chunk_json.proofs.types.+types.Given as goal

abbrev pub decreases-read_type : goal.decreases-read_type
decreases-read_type l = 2 * size (view l.value.now)

abbrev pub decreases-read_nested : goal.decreases-read_nested
decreases-read_nested l = 2 * members_size (members_view l.members.now.entries) + 1

abbrev pub decreases-read_type_at : goal.decreases-read_type_at
decreases-read_type_at l = 2 * members_size (members_view l.members.now.entries)

abbrev pub decreases-read_fields_at : goal.decreases-read_fields_at
decreases-read_fields_at l = 2 * members_size (members_view l.members.now.entries)

abbrev pub decreases-read_fields_of : goal.decreases-read_fields_of
decreases-read_fields_of l = 2 * size (view l.value.now)

abbrev pub decreases-read_fields : goal.decreases-read_fields
decreases-read_fields l = 2 * items_size (items_view l.items.now)

abbrev pub decreases-read_field : goal.decreases-read_field
decreases-read_field l = 2 * size (view l.value.now)

abbrev pub invariant-read_fields-loop-item : goal.invariant-read_fields-loop-item
invariant-read_fields-loop-item l = with_front (map field_ty l.fields.items) (each field_of (items_view (drop l.item-index l.items))) ≡ each field_of (items_view l.items)
