use Rattle.std.proofs.Common.{◌++◌, ◌∷◌, [], ℕ, List, map, ◌-◌, cond, length, ◌≡◌, refl, sym, ◌∙◌, rules, arith}
use Rattle.std.proofs.lemmas.Result.{err_from_is_err_and}
use Rattle.vx_model.specs.declared.dtype.DType as dt
use Rattle.vx_model.specs.Ty.{tys_of, nullable}
use Rattle.vx_model.specs.TyView.{ty, field_ty}
use Rattle.vx_model.proofs.Views.{ty_extension}
use Rattle.vx_segment_spec.specs.Pieces.{pieces_at, part_at, own_of, columns_at}
use Rattle.vx_segment_reader.specs.Views.{frame, rest, head}
use Rattle.vx_segment_spec.proofs.PieceTypes.{parts_typed, piece_typed, list_elements, flags_count, struct_made, storage_made}
use Rattle.vx_segment_reader.proofs.PieceSteps.{own_rules, storage_of, parts_go_on, parts_end, parts_done, columns_go_on, columns_end, columns_done}
use Rattle.vx_segment_reader.proofs.pieces.+pieces.Goals as goal

pub read_chunked-made_chunked-requires : goal.read_chunked-made_chunked-requires
read_chunked-made_chunked-requires t c = parts_typed (frame c.args.frame.now) (ty c.args.dtype.now) _ _ _ c.in_ok-parts.ensures

pub read_columns-returns-in_err-column : goal.read_columns-returns-in_err-column
read_columns-returns-in_err-column t c =
    let p = err_from_is_err_and c.from_residual-in_err-column.result c.from_residual-in_err-column.ensures.1 in
    rw (p.1, p.2) (columns_end c.in_err-column.field-0.0 (frame c.args.frame.now) c.args.fields.now c.loop-field.columns.items c.loop-field.field-index c.field-item.result (rest c.loop-field.rest) (columns_at (frame c.args.frame.now) (tys_of (map field_ty c.args.fields.now)) (rest c.args.rest)) c.loop-field-test.true c.field-item.is c.in_err-column.ensures c.loop-field.invariant)

pub read_columns-loop-field-preserved : goal.read_columns-loop-field-preserved
read_columns-loop-field-preserved t c =
    rw c.in_ok-push.ensures.items (columns_go_on (frame c.args.frame.now) c.args.fields.now c.loop-field.columns.items c.loop-field.field-index c.field-item.result (rest c.loop-field.rest) c.in_ok-column.column (rest c.in_ok-column.after) (columns_at (frame c.args.frame.now) (tys_of (map field_ty c.args.fields.now)) (rest c.args.rest)) c.loop-field-test.true c.field-item.is c.in_ok-column.ensures c.loop-field.invariant)

pub read_columns-returns : goal.read_columns-returns
read_columns-returns t c = columns_done (frame c.args.frame.now) c.args.fields.now c.loop-field.columns.items c.loop-field.field-index (rest c.loop-field.rest) (columns_at (frame c.args.frame.now) (tys_of (map field_ty c.args.fields.now)) (rest c.args.rest)) c.loop-field-test.false c.loop-field.invariant

pub read_extension-made_extension-requires : goal.read_extension-made_extension-requires
read_extension-made_extension-requires t c =
    storage_made (ty c.args.dtype.now) _ (ty c.args.storage.now) c.in_ok-storage.storage refl c.requires (piece_typed (frame c.args.frame.now) (ty c.args.storage.now) _ _ c.in_ok-storage.ensures)

pub read_list-made_list-requires : goal.read_list-made_list-requires
read_list-made_list-requires t c =
    let u = ty c.args.items.now in
    let many = c.in_ok-offsets.ensures.count in
    record {
      elements = list_elements (ty c.args.dtype.now) u (nullable (ty c.args.dtype.now)) c.in_ok-elements.elements c.requires (piece_typed (frame c.args.frame.now) u _ _ c.in_ok-elements.ensures);
      flags = flags_count (ty c.args.dtype.now) c.args.node.now.rows (length c.in_ok-offsets.offsets.items - 1) c.in_ok-valid.valid.items (omega (arith, many)) (rw c.is_nullable-nullable.ensures at c.in_ok-valid.ensures.count);
    }

pub read_own-read_extension-requires : goal.read_own-read_extension-requires
read_own-read_extension-requires t c =
    (search (rules, dt.the_lemmas, own_rules), rw c.deref-in-Extension-encoding.ensures (storage_of c.args.dtype.now c.in-Extension.ext c.in-Extension.is))

pub read_parts-returns-in_err-part : goal.read_parts-returns-in_err-part
read_parts-returns-in_err-part t c =
    let read = part_at (frame c.args.frame.now) (ty c.args.dtype.now) (own_of (frame c.args.frame.now) (ty c.args.dtype.now)) in
    let p = err_from_is_err_and c.from_residual.result c.from_residual.ensures.1 in
    rw (p.1, p.2) (parts_end c.in_err-part.field-0.0 read c.loop.parts.items c.args.count c.loop.counter (rest c.loop.rest) (pieces_at read c.args.count (rest c.args.rest)) c.loop-test.true c.in_err-part.ensures c.loop.invariant)

pub read_parts-loop-preserved : goal.read_parts-loop-preserved
read_parts-loop-preserved t c =
    let read = part_at (frame c.args.frame.now) (ty c.args.dtype.now) (own_of (frame c.args.frame.now) (ty c.args.dtype.now)) in
    rw c.in_ok-push.ensures.items (parts_go_on read c.loop.parts.items c.args.count c.loop.counter (rest c.loop.rest) c.in_ok-part.part (rest c.in_ok-part.after) (pieces_at read c.args.count (rest c.args.rest)) c.loop-test.true c.in_ok-part.ensures c.loop.invariant)

pub read_parts-returns : goal.read_parts-returns
read_parts-returns t c =
    let read = part_at (frame c.args.frame.now) (ty c.args.dtype.now) (own_of (frame c.args.frame.now) (ty c.args.dtype.now)) in
    parts_done read c.loop.parts.items c.args.count c.loop.counter (rest c.loop.rest) (pieces_at read c.args.count (rest c.args.rest)) c.loop-test.false c.loop.invariant

pub read_struct-strukt-requires : goal.read_struct-strukt-requires
read_struct-strukt-requires t c =
    struct_made (frame c.args.frame.now) (ty c.args.dtype.now) _ (tys_of (map field_ty c.args.fields.now)) _ _ c.in_ok-columns.columns.items c.in_ok-valid.valid.items c.args.node.now.rows c.in_ok-clone.ensures.cases c.requires c.in_ok-columns.ensures
    (rw c.deref.ensures.value at (sym c.have_rows.ensures ∙ c.if-not-have_rows.false)) (rw c.is_nullable-nullable.ensures at c.in_ok-valid.ensures.count)
