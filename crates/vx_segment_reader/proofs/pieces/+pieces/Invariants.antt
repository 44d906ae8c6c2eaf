use Rattle.std.proofs.Common.{◌≡◌, ◌+◌, ◌-◌, ◌*◌, map}
use Rattle.vx_model.specs.Ty.{tys_of}
use Rattle.vx_model.specs.TyView.{ty, field_ty}
use Rattle.vx_segment_spec.specs.Pieces.{pieces_at, part_at, own_of, columns_at}
use Rattle.vx_segment_reader.specs.TypeDepth.{ty_depth, tys_depth}
use Rattle.vx_segment_reader.specs.Views.{frame, rest}
use Rattle.vx_segment_reader.proofs.PieceSteps.{with_more, columns_from}
use Rattle.vx_segment_reader.proofs.pieces.+pieces.Given as goal

abbrev pub decreases-read_piece : goal.decreases-read_piece
decreases-read_piece l = 8 * ty_depth (ty l.dtype.now) + 7

abbrev pub decreases-read_chunked : goal.decreases-read_chunked
decreases-read_chunked l = 8 * ty_depth (ty l.dtype.now) + 6

abbrev pub decreases-read_parts : goal.decreases-read_parts
decreases-read_parts l = 8 * ty_depth (ty l.dtype.now) + 5

abbrev pub decreases-read_part : goal.decreases-read_part
decreases-read_part l = 8 * ty_depth (ty l.dtype.now) + 4

abbrev pub decreases-read_node : goal.decreases-read_node
decreases-read_node l = 8 * ty_depth (ty l.dtype.now) + 3

abbrev pub decreases-read_own : goal.decreases-read_own
decreases-read_own l = 8 * ty_depth (ty l.dtype.now) + 2

abbrev pub decreases-read_list : goal.decreases-read_list
decreases-read_list l = 8 * ty_depth (ty l.items.now) + 9

abbrev pub decreases-read_struct : goal.decreases-read_struct
decreases-read_struct l = 8 * tys_depth (tys_of (map field_ty l.fields.now)) + 9

abbrev pub decreases-read_columns : goal.decreases-read_columns
decreases-read_columns l = 8 * tys_depth (tys_of (map field_ty l.fields.now)) + 8

abbrev pub decreases-read_extension : goal.decreases-read_extension
decreases-read_extension l = 8 * ty_depth (ty l.storage.now) + 9

abbrev pub invariant-read_parts-loop : goal.invariant-read_parts-loop
invariant-read_parts-loop l = with_more l.parts.items (pieces_at (part_at (frame l.frame) (ty l.dtype) (own_of (frame l.frame) (ty l.dtype))) (l.count - l.counter) (rest l.rest)) ≡ pieces_at (part_at (frame l.frame) (ty l.dtype) (own_of (frame l.frame) (ty l.dtype))) l.count (rest l.fn.rest)

abbrev pub invariant-read_columns-loop-field : goal.invariant-read_columns-loop-field
invariant-read_columns-loop-field l = with_more l.columns.items (columns_from (frame l.frame) l.fields l.field-index (rest l.rest)) ≡ columns_at (frame l.frame) (tys_of (map field_ty l.fields)) (rest l.fn.rest)
