use Rattle.std.proofs.Common.{◌≡◌, ◌+◌, ◌*◌, drop, map}
use Rattle.serde_json.specs.View.{view, items_view, members_view}
use Rattle.vx_model.specs.Ty.{tys_of}
use Rattle.vx_model.specs.TyView.{ty, field_ty}
use Rattle.vx_json.specs.Lists.{each}
use Rattle.vx_chunk_json.specs.Chunks.{chunk_of, columns_in}
use Rattle.vx_json.proofs.Items.{with_front}
use Rattle.vx_chunk_json.proofs.Sizes.{size, items_size, members_size}
use Rattle.vx_chunk_json.proofs.ChunkSteps.{rest_at}
use Rattle.vx_chunk_json.proofs.chunks.+chunks.Given as goal

abbrev pub decreases-chunk_from : goal.decreases-chunk_from
decreases-chunk_from l = 4 * size (view l.value.now)

abbrev pub decreases-read_encoded : goal.decreases-read_encoded
decreases-read_encoded l = 4 * members_size (members_view l.members.now.entries) + 3

abbrev pub decreases-read_chunk_at : goal.decreases-read_chunk_at
decreases-read_chunk_at l = 4 * members_size (members_view l.members.now.entries) + 1

abbrev pub decreases-read_dict : goal.decreases-read_dict
decreases-read_dict l = 4 * members_size (members_view l.members.now.entries) + 2

abbrev pub decreases-read_chunked : goal.decreases-read_chunked
decreases-read_chunked l = 4 * members_size (members_view l.members.now.entries) + 2

abbrev pub decreases-read_list : goal.decreases-read_list
decreases-read_list l = 4 * members_size (members_view l.members.now.entries) + 2

abbrev pub decreases-read_struct : goal.decreases-read_struct
decreases-read_struct l = 4 * members_size (members_view l.members.now.entries) + 2

abbrev pub decreases-read_extension : goal.decreases-read_extension
decreases-read_extension l = 4 * members_size (members_view l.members.now.entries) + 2

abbrev pub decreases-read_columns_at : goal.decreases-read_columns_at
decreases-read_columns_at l = 4 * members_size (members_view l.members.now.entries) + 1

abbrev pub decreases-read_chunks : goal.decreases-read_chunks
decreases-read_chunks l = 4 * items_size (items_view l.values.now)

abbrev pub decreases-read_columns : goal.decreases-read_columns
decreases-read_columns l = 4 * items_size (items_view l.values.now)

abbrev pub invariant-read_chunks-loop-value : goal.invariant-read_chunks-loop-value
invariant-read_chunks-loop-value l = with_front l.parts.items (each (chunk_of (ty l.dtype)) (items_view (drop l.value-index l.values))) ≡ each (chunk_of (ty l.dtype)) (items_view l.values)

abbrev pub invariant-read_columns-loop-i : goal.invariant-read_columns-loop-i
invariant-read_columns-loop-i l = with_front l.columns.items (rest_at l.types l.values l.i) ≡ columns_in (tys_of (map field_ty l.types)) (items_view l.values)
