-- A list, a struct or an extension that is spelled so is read, and with them every chunk.
use Rattle.std.proofs.Common.{◌≡◌, ℕ, zero, suc, ◌+◌, ◌-◌, ◌^◌, ◌<◌, ◌≤◌, Bool, true, false, cond, List, [], ◌∷◌, ◌++◌, length, map, Option, Some, None, Result, Ok, Err, refl, sym, ap, subst, ◌∙◌, append_assoc, arith, IsTrue}
use Rattle.std.specs.Prelude.{◌&&◌, ◌==◌, nat_le, slice_get}
use Rattle.std.specs.List.{AllByRecursion}
use Rattle.std.proofs.lemmas.Bool.{eqb-true, eq-eqb, leb-true, and_parts}
use Rattle.std.proofs.lemmas.List.{length-append, nil_from_length}
use Rattle.vx_model.specs.declared.encoding.EncodingId.{EncodingId}
use Rattle.vx_model.specs.declared.encoding.EncodingId.TheVariants as encodings
use Rattle.vx_model.specs.Words.{joined_by, all_by}
use Rattle.vx_model.specs.Ty.{Ty, Tys, boolean, primitive, utf8, binary, list, struct, extension, no_fields, field, nullable, ty_eq}
use Rattle.vx_model.specs.TyLaws.{ty_eq_decides}
use Rattle.vx_model.specs.CellData.{bit, u64_bytes, spelling}
use Rattle.vx_model.specs.ChunkData.{ChunkData, ChunkList, plain_piece, constant_piece, dict_piece, chunked_piece, list_piece, struct_piece, extension_piece, no_pieces, part, pieces_of, pieces_in, piece_type, cells, joined_cells, each_cells, list_rows, is_sound, are_sound, is_chunked, are_offsets, are_flags, has_elements, has_storage, has_fields, match_fields, validity_size}
use Rattle.vx_layout_spec.specs.Real.{is_real, are_real}
use Rattle.vx_chunk.proofs.Sound.{of_plain, of_constant, of_dict, of_chunked, of_list, of_struct, of_extension}
use Rattle.vx_chunk.proofs.Lengths.{length-list_rows, length-struct_rows}
use Rattle.vx_segment_writer.specs.Head.{Head}
use Rattle.vx_segment_writer.specs.Segment.{validity_buffer, own_buffers, buffers, buffers_below, count_pieces, head_of, heads, heads_below, own_refusal, refused, refused_below}
use Rattle.vx_cell_codec.specs.Columns.{ascend, offsets_at, flags_at, AreOffsets, AreFlags}
use Rattle.vx_cell_codec.proofs.ColumnLaws.{offsets_again, flags_again}
use Rattle.vx_byte_reader.specs.Places.{◌>>=◌}
use Rattle.vx_segment_spec.specs.Reading.{Fault}
use Rattle.vx_segment_spec.specs.Pieces.{Rest, Frame, number, flags_of, list_at, have_rows, struct_at, extension_at, no_pieces_at, piece_then, count_fields, own_of, columns_at, piece_at}
use Rattle.vx_segment_spec.proofs.AgainLaws.{rest_of, Ready, ReadyAll, placed, own_listed, none_of, at_part, at_whole, plain_again, constant_again, dict_again, PartAgain, WholeAgain, Again, pieces_of-pieces_in, chunked_again}
use Rattle.vx_segment_spec.proofs.RowsFit.{rows_fit}

-- ---- flags

valid_again : (b : Bool) (k rows : ℕ) (valid : List Bool) (ns : List Head) (bs : List (List ℕ)) → length valid ≡ cond b rows 0
    → flags_of b k rows (rest_of ns (cond b (map bit valid ∷ []) [] ++ bs)) ≡ Ok (valid, rest_of ns bs)
unfolding flags_of
valid_again true k rows valid ns bs count =
    let known : AreFlags rows (map bit valid) valid = record { spelled = refl; count = count } in
    rw (flags_again rows (map bit valid) valid known) refl
valid_again false k rows valid ns bs count = ap (λ (v : List Bool). Ok (v, rest_of ns bs)) (sym (nil_from_length valid count))

pub flags_for : (t : Ty) (rows : ℕ) (valid : List Bool) → are_flags t rows valid ≡ true → length valid ≡ cond (nullable t) rows 0
flags_for t rows valid e = eqb-true (length valid) (validity_size t rows) e

-- ---- lists

offsets_ascend : (count : ℕ) (os : List ℕ) → are_offsets count os ≡ true → ascend os ≡ true
offsets_ascend count [] e = absurd cc
offsets_ascend count (a ∷ []) e = refl
offsets_ascend count (a ∷ b ∷ os) e =
    rw ((and_parts (nat_le a b) _ e).0, offsets_ascend count (b ∷ os) (and_parts (nat_le a b) _ e).1) refl

first_within : (count a : ℕ) (os : List ℕ) → are_offsets count (a ∷ os) ≡ true → a ≤ count
first_within count a [] e = leb-true a count e
first_within count a (b ∷ os) e =
    let low = leb-true a b (and_parts (nat_le a b) _ e).0 in
    omega (arith, low, first_within count b os (and_parts (nat_le a b) _ e).1)

offsets_small : (count : ℕ) (os : List ℕ) → count < 2 ^ 64 → are_offsets count os ≡ true → AllByRecursion (λ n. n < 2 ^ 64) os
offsets_small count [] few e = absurd cc
offsets_small count (a ∷ []) few e = (omega (arith, few, first_within count a [] e), tt)
offsets_small count (a ∷ b ∷ os) few e = (omega (arith, few, first_within count a (b ∷ os) e), offsets_small count (b ∷ os) few (and_parts (nat_le a b) _ e).1)

pub list_again : (frame : Frame) (u : Ty) (m : Bool) (e : ChunkData) (offsets : List ℕ) (valid : List Bool) (k : ℕ) (ns : List Head) (bs : List (List ℕ)) → WholeAgain frame e → u ≡ piece_type e → length (cells e) < 2 ^ 64 → are_offsets (length (cells e)) offsets ≡ true
    → 1 ≤ length offsets → length valid ≡ cond m (length offsets - 1) 0
    → list_at (list u m) m (piece_at frame u) k (head_of frame.ids (list_piece (list u m) e offsets valid)) (rest_of (heads frame.ids e ++ ns) ((own_buffers (list_piece (list u m) e offsets valid) ++ buffers e) ++ bs)) ≡ Ok (list_piece (list u m) e offsets valid, rest_of ns bs)
unfolding list_at
list_again frame u true e offsets valid k ns bs whole kind few within some flags =
    let ctx : List EncodingId = frame.ids in
    let rows : length (list_rows (cells e) offsets valid) ≡ length offsets - 1 = length-list_rows (cells e) offsets valid in
    let known : AreOffsets (length offsets - 1) (joined_by u64_bytes offsets) offsets = record { spelled = refl; count = omega (arith, some); ascending = offsets_ascend (length (cells e)) offsets within; small = offsets_small (length (cells e)) offsets few within } in
    let elements : piece_at frame u (rest_of (heads ctx e ++ ns) (buffers e ++ bs)) ≡ Ok (e, rest_of ns bs) = subst (λ (v : Ty). piece_at frame v (rest_of (heads ctx e ++ ns) (buffers e ++ bs)) ≡ Ok (e, rest_of ns bs)) (sym kind) (whole ns bs) in
    rw (rows, offsets_again (length offsets - 1) (joined_by u64_bytes offsets) offsets known, valid_again true k (length offsets - 1) valid (heads ctx e ++ ns) (buffers e ++ bs) flags, elements, within) refl
list_again frame u false e offsets valid k ns bs whole kind few within some flags =
    let ctx : List EncodingId = frame.ids in
    let rows : length (list_rows (cells e) offsets valid) ≡ length offsets - 1 = length-list_rows (cells e) offsets valid in
    let known : AreOffsets (length offsets - 1) (joined_by u64_bytes offsets) offsets = record { spelled = refl; count = omega (arith, some); ascending = offsets_ascend (length (cells e)) offsets within; small = offsets_small (length (cells e)) offsets few within } in
    let elements : piece_at frame u (rest_of (heads ctx e ++ ns) (buffers e ++ bs)) ≡ Ok (e, rest_of ns bs) = subst (λ (v : Ty). piece_at frame v (rest_of (heads ctx e ++ ns) (buffers e ++ bs)) ≡ Ok (e, rest_of ns bs)) (sym kind) (whole ns bs) in
    rw (rows, offsets_again (length offsets - 1) (joined_by u64_bytes offsets) offsets known, valid_again false k (length offsets - 1) valid (heads ctx e ++ ns) (buffers e ++ bs) flags, elements, within) refl

-- ---- structs

columns_again : (frame : Frame) (fs : Tys) (ps : ChunkList) (rows : ℕ) (ns : List Head) (bs : List (List ℕ)) → AllByRecursion (Again frame) (pieces_in ps) → match_fields fs (pieces_in ps) rows ≡ true
    → columns_at frame fs (rest_of (heads_below frame.ids ps ++ ns) (buffers_below ps ++ bs)) ≡ Ok (pieces_in ps, rest_of ns bs)
unfolding no_pieces_at piece_then
columns_again frame no_fields no_pieces rows ns bs agains e = refl
columns_again frame no_fields (part p ps) rows ns bs agains e = absurd cc
columns_again frame (field name t fs) no_pieces rows ns bs agains e = absurd cc
columns_again frame (field name t fs) (part p ps) rows ns bs agains e =
    let ctx : List EncodingId = frame.ids in
    let kind : piece_type p ≡ t = (ty_eq_decides (piece_type p) t).0 (and_parts (ty_eq (piece_type p) t) _ e).0 in
    let others : match_fields fs (pieces_in ps) rows ≡ true = (and_parts (length (cells p) == rows) _ (and_parts (ty_eq (piece_type p) t) _ e).1).1 in
    let nodes : (heads ctx p ++ heads_below ctx ps) ++ ns ≡ heads ctx p ++ (heads_below ctx ps ++ ns) = append_assoc (heads ctx p) (heads_below ctx ps) ns in
    let texts : (buffers p ++ buffers_below ps) ++ bs ≡ buffers p ++ (buffers_below ps ++ bs) = append_assoc (buffers p) (buffers_below ps) bs in
    let one : piece_at frame t (rest_of (heads ctx p ++ (heads_below ctx ps ++ ns)) (buffers p ++ (buffers_below ps ++ bs))) ≡ Ok (p, rest_of (heads_below ctx ps ++ ns) (buffers_below ps ++ bs)) = subst (λ (u : Ty). piece_at frame u (rest_of (heads ctx p ++ (heads_below ctx ps ++ ns)) (buffers p ++ (buffers_below ps ++ bs))) ≡ Ok (p, rest_of (heads_below ctx ps ++ ns) (buffers_below ps ++ bs))) kind (agains.0.whole (heads_below ctx ps ++ ns) (buffers_below ps ++ bs)) in
    rw (nodes, texts, one, columns_again frame fs ps rows ns bs agains.1 others) refl

fields_have : (fs : Tys) (ps : List ChunkData) (rows : ℕ) → match_fields fs ps rows ≡ true → have_rows rows ps ≡ true
fields_have no_fields [] rows e = refl
fields_have no_fields (p ∷ ps) rows e = absurd cc
fields_have (field name t fs) [] rows e = absurd cc
fields_have (field name t fs) (p ∷ ps) rows e =
    let more = (and_parts (ty_eq (piece_type p) t) _ e).1 in
    rw ((and_parts (length (cells p) == rows) _ more).0, fields_have fs ps rows (and_parts (length (cells p) == rows) _ more).1) refl

fields_count : (fs : Tys) (ps : ChunkList) (rows : ℕ) → match_fields fs (pieces_in ps) rows ≡ true → count_pieces ps ≡ count_fields fs
fields_count no_fields no_pieces rows e = refl
fields_count no_fields (part p ps) rows e = absurd cc
fields_count (field name t fs) no_pieces rows e = absurd cc
fields_count (field name t fs) (part p ps) rows e = ap suc (fields_count fs ps rows (and_parts (length (cells p) == rows) _ (and_parts (ty_eq (piece_type p) t) _ e).1).1)

pub struct_again : (frame : Frame) (fs : Tys) (m : Bool) (ps : ChunkList) (valid : List Bool) (rows k : ℕ) (ns : List Head) (bs : List (List ℕ)) → AllByRecursion (Again frame) (pieces_in ps) → match_fields fs (pieces_in ps) rows ≡ true → length valid ≡ cond m rows 0
    → struct_at (struct fs m) m (count_fields fs) (columns_at frame fs) k (head_of frame.ids (struct_piece (struct fs m) ps valid rows)) (rest_of (heads_below frame.ids ps ++ ns) ((own_buffers (struct_piece (struct fs m) ps valid rows) ++ buffers_below ps) ++ bs)) ≡ Ok (struct_piece (struct fs m) ps valid rows, rest_of ns bs)
unfolding struct_at
struct_again frame fs true ps valid rows k ns bs agains fields flags =
    let ctx : List EncodingId = frame.ids in
    let count : (count_pieces ps == count_fields fs) ≡ true = eq-eqb _ _ (fields_count fs ps rows fields) in
    rw (count, length-struct_rows rows (each_cells ps) valid, valid_again true k rows valid (heads_below ctx ps ++ ns) (buffers_below ps ++ bs) flags, columns_again frame fs ps rows ns bs agains fields, fields_have fs (pieces_in ps) rows fields, pieces_of-pieces_in ps) refl
struct_again frame fs false ps valid rows k ns bs agains fields flags =
    let ctx : List EncodingId = frame.ids in
    let count : (count_pieces ps == count_fields fs) ≡ true = eq-eqb _ _ (fields_count fs ps rows fields) in
    rw (count, length-struct_rows rows (each_cells ps) valid, valid_again false k rows valid (heads_below ctx ps ++ ns) (buffers_below ps ++ bs) flags, columns_again frame fs ps rows ns bs agains fields, fields_have fs (pieces_in ps) rows fields, pieces_of-pieces_in ps) refl

-- ---- extensions

pub extension_again : (frame : Frame) (tag : List ℕ) (u : Ty) (e : ChunkData) (k : ℕ) (ns : List Head) (bs : List (List ℕ)) → WholeAgain frame e → u ≡ piece_type e
    → extension_at (extension tag u) (piece_at frame u) k (head_of frame.ids (extension_piece (extension tag u) e)) (rest_of (heads frame.ids e ++ ns) (buffers e ++ bs)) ≡ Ok (extension_piece (extension tag u) e, rest_of ns bs)
unfolding extension_at
extension_again frame tag u e k ns bs whole kind =
    let ctx : List EncodingId = frame.ids in
    let storage : piece_at frame u (rest_of (heads ctx e ++ ns) (buffers e ++ bs)) ≡ Ok (e, rest_of ns bs) = subst (λ (v : Ty). piece_at frame v (rest_of (heads ctx e ++ ns) (buffers e ++ bs)) ≡ Ok (e, rest_of ns bs)) (sym kind) (whole ns bs) in
    let rows : (length (cells e) == length (cells e)) ≡ true = eq-eqb _ _ refl in
    rw (storage, rows) refl
