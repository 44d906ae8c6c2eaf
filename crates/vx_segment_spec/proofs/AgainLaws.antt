-- A chunk that is spelled so is read, one encoding at a time.
use Rattle.std.proofs.Common.{◌≡◌, ℕ, zero, suc, ◌+◌, ◌-◌, ◌^◌, ◌<◌, ◌≤◌, Bool, true, false, cond, List, [], ◌∷◌, ◌++◌, length, map, Option, Some, None, Result, Ok, Err, refl, sym, ap, subst, ◌∙◌, append_assoc, arith, IsTrue}
use Rattle.std.specs.Prelude.{◌&&◌, ◌==◌, not, nat_le, slice_get, pos}
use Rattle.std.specs.List.{AllByRecursion}
use Rattle.std.proofs.lemmas.Bool.{eqb-true, eq-eqb, and_parts}
use Rattle.std.proofs.lemmas.List.{append-nil, length-map, length-replicate, nil_from_length}
use Rattle.vx_model.specs.declared.encoding.EncodingId.{EncodingId}
use Rattle.vx_model.specs.declared.encoding.EncodingId.TheVariants as encodings
use Rattle.vx_model.specs.declared.ptype.PType.{PType}
use Rattle.vx_model.specs.declared.ptype.PType.TheVariants.{U8, U16, U32, U64}
use Rattle.vx_model.specs.Words.{joined_by, all_by}
use Rattle.vx_model.specs.Numbers.{encoding_number, encoding_eq}
use Rattle.vx_model.specs.Distinct.{is_listed}
use Rattle.vx_model.specs.Places.{place_of}
use Rattle.vx_model.specs.Ty.{Ty, Tys, boolean, primitive, utf8, binary, list, struct, extension, no_fields, field, nullable, ty_eq}
use Rattle.vx_model.specs.TyLaws.{ty_eq_decides}
use Rattle.vx_model.specs.CellData.{CellData, bit, u64_bytes, fits, spelling}
use Rattle.vx_model.specs.ChunkData.{ChunkData, ChunkList, plain_piece, constant_piece, dict_piece, chunked_piece, list_piece, struct_piece, extension_piece, no_pieces, part, pieces_of, pieces_in, piece_type, cells, joined_cells, each_cells, picked, is_sound, are_sound, is_simple, is_chunked, is_code_type, is_dict_type, is_code, are_parts, are_offsets, are_flags, match_fields, validity_size}
use Rattle.vx_layout_spec.specs.Real.{is_real_cell, is_real, are_real}
use Rattle.vx_chunk_cells.proofs.Tests.{below}
use Rattle.vx_chunk.proofs.Sound.{of_plain, of_constant}
use Rattle.vx_chunk.proofs.Lengths.{length-list_rows, length-struct_rows}
use Rattle.vx_segment_writer.specs.Head.{Head}
use Rattle.vx_segment_writer.specs.Segment.{validity_buffer, own_buffers, buffers, buffers_below, code_number, count_pieces, head_of, heads, heads_below, first_of, own_refusal, refused, refused_below}
use Rattle.vx_cell_codec.specs.Reading.{cells_at, only_cell_at}
use Rattle.vx_cell_codec.specs.Filled.{AreFilled}
use Rattle.vx_cell_codec.specs.Columns.{ascend, offsets_at, flags_at, AreOffsets, AreFlags}
use Rattle.vx_cell_codec.proofs.FilledLaws.{cells_again, only_again}
use Rattle.vx_cell_codec.proofs.ColumnLaws.{offsets_again, flags_again}
use Rattle.vx_byte_reader.specs.Places.{◌>>=◌}
use Rattle.vx_segment_spec.specs.Reading.{Fault}
use Rattle.vx_segment_spec.specs.Pieces.{Rest, Frame, number, unless_bad, given, node_of, buffer_of, is_shaped, flag_buffers, flags_of, pieces_at, plain_at, constant_at, code_type, simple_of, simple_at, are_codes, dict_at, chunked_at, list_at, have_rows, struct_at, extension_at, part_of, part_at, whole_of, whole_at, no_pieces_at, piece_then, own_of, columns_at, piece_at}
use Rattle.vx_segment_spec.proofs.PieceTypes.{same_type}

abbrev pub rest_of : List Head → List (List ℕ) → Rest
rest_of ns bs = record { nodes = ns; buffers = bs }

abbrev pub read_as : {A : Type 0} → A → Result A Fault
read_as x = Ok x

-- a chunk that can be in memory, all of whose encodings are in the context
pub record Ready (ctx : List EncodingId) (p : ChunkData) : Type 0 where
  pub sound : is_sound p ≡ true
  pub real : is_real p ≡ true
  pub listed : refused ctx p ≡ None

pub record ReadyAll (ctx : List EncodingId) (ps : ChunkList) : Type 0 where
  pub sound : are_sound ps ≡ true
  pub real : are_real ps ≡ true
  pub listed : refused_below ctx ps ≡ None

-- ---- the context

decoded : ℕ → EncodingId
decoded zero = encodings.Plain
decoded (suc zero) = encodings.Constant
decoded (suc (suc zero)) = encodings.Dict
decoded (suc (suc (suc zero))) = encodings.Chunked
decoded (suc (suc (suc (suc zero)))) = encodings.List
decoded (suc (suc (suc (suc (suc zero))))) = encodings.Struct
decoded (suc (suc (suc (suc (suc (suc n)))))) = encodings.Extension

decoded_is : (e : EncodingId) → decoded (encoding_number e) ≡ e
unfolding decoded
decoded_is encodings.Plain = refl
decoded_is encodings.Constant = refl
decoded_is encodings.Dict = refl
decoded_is encodings.Chunked = refl
decoded_is encodings.List = refl
decoded_is encodings.Struct = refl
decoded_is encodings.Extension = refl

same_encoding : (d e : EncodingId) → encoding_eq d e ≡ true → d ≡ e
same_encoding d e h = sym (decoded_is d) ∙ ap decoded (eqb-true (encoding_number d) (encoding_number e) h) ∙ decoded_is e

pub placed : (ctx : List EncodingId) (e : EncodingId) → is_listed e ctx ≡ true → slice_get ctx (place_of e ctx) ≡ Some e
placed [] e h = absurd cc
placed (d ∷ ds) e h = by_test (λ l. placed ds e l) (encoding_eq d e) refl h
  where
    by_test : (is_listed e ds ≡ true → slice_get ds (place_of e ds) ≡ Some e) → (b : Bool) → encoding_eq d e ≡ b → is_listed e (d ∷ ds) ≡ true → slice_get (d ∷ ds) (place_of e (d ∷ ds)) ≡ Some e
    by_test further true same listed = rw same (ap (λ (f : EncodingId). Some f) (same_encoding d e same))
    by_test further false other listed = rw other (further (rw other at listed))

pub own_listed : (ctx : List EncodingId) (e : EncodingId) → own_refusal ctx e ≡ None → is_listed e ctx ≡ true
own_listed ctx e h = by_test (is_listed e ctx) h
  where
    by_test : (b : Bool) → cond b None (Some e) ≡ None → b ≡ true
    by_test true k = refl
    by_test false k = absurd cc

pub none_of : (r s : Option EncodingId) → first_of r s ≡ None → (r ≡ None) × (s ≡ None)
none_of None s e = (refl, e)
none_of (Some x) s e = absurd cc

-- ---- nodes

pub at_simple : (frame : Frame) (t : Ty) (n : Head) (ns : List Head) (bs : List (List ℕ)) (id : EncodingId) (x : ChunkData × Rest) → slice_get frame.ids n.index ≡ Some id
    → simple_of t (number frame (rest_of (n ∷ ns) bs)) n (Some id) (rest_of ns bs) ≡ Ok x → simple_at frame t (rest_of (n ∷ ns) bs) ≡ Ok x
unfolding simple_at
at_simple frame t n ns bs id x got e = rw got e

pub at_part : (frame : Frame) (t : Ty) (n : Head) (ns : List Head) (bs : List (List ℕ)) (id : EncodingId) (x : ChunkData × Rest) → slice_get frame.ids n.index ≡ Some id
    → part_of frame t (own_of frame t) (number frame (rest_of (n ∷ ns) bs)) n (Some id) (rest_of ns bs) ≡ Ok x → part_at frame t (own_of frame t) (rest_of (n ∷ ns) bs) ≡ Ok x
unfolding part_at
at_part frame t n ns bs id x got e = rw got e

pub at_whole : (frame : Frame) (t : Ty) (n : Head) (ns : List Head) (bs : List (List ℕ)) (id : EncodingId) (x : ChunkData × Rest) → slice_get frame.ids n.index ≡ Some id
    → whole_of frame t (own_of frame t) (number frame (rest_of (n ∷ ns) bs)) n (Some id) (rest_of ns bs) ≡ Ok x → piece_at frame t (rest_of (n ∷ ns) bs) ≡ Ok x
unfolding whole_at
at_whole frame t n ns bs id x got e = rw got e

-- ---- plain and constant chunks

pub plain_again : (ctx : List EncodingId) (t : Ty) (cs : List CellData) (k : ℕ) (ns : List Head) (bs : List (List ℕ)) → is_sound (plain_piece t cs) ≡ true → is_real (plain_piece t cs) ≡ true
    → plain_at t k (head_of ctx (plain_piece t cs)) (rest_of ns (joined_by (spelling t) cs ∷ bs)) ≡ Ok (plain_piece t cs, rest_of ns bs)
unfolding plain_at
plain_again ctx t cs k ns bs sound real =
    let filled : AreFilled t (length cs) (joined_by (spelling t) cs) cs = record { spelled = refl; count = refl; fit = (of_plain t cs sound).fit; real = real } in
    rw (cells_again t (length cs) (joined_by (spelling t) cs) cs filled) refl

pub constant_again : (ctx : List EncodingId) (t : Ty) (c : CellData) (rows k : ℕ) (ns : List Head) (bs : List (List ℕ)) → is_sound (constant_piece t c rows) ≡ true → is_real (constant_piece t c rows) ≡ true
    → constant_at t k (head_of ctx (constant_piece t c rows)) (rest_of ns (spelling t c ∷ bs)) ≡ Ok (constant_piece t c rows, rest_of ns bs)
unfolding constant_at
constant_again ctx t c rows k ns bs sound real =
    let fit : (fits t c && true) ≡ true = rw (of_constant t c rows sound).fit refl in
    let kept : (is_real_cell c && true) ≡ true = rw real refl in
    let filled : AreFilled t 1 (spelling t c) (c ∷ []) = record { spelled = sym (append-nil (spelling t c)); count = refl; fit = fit; real = kept } in
    rw (only_again t (spelling t c) c filled, length-replicate rows c) refl

-- ---- dictionaries

pub simple_again : (frame : Frame) (p : ChunkData) (ns : List Head) (bs : List (List ℕ)) → Ready frame.ids p → is_simple p ≡ true → simple_at frame (piece_type p) (rest_of (heads frame.ids p ++ ns) (buffers p ++ bs)) ≡ Ok (p, rest_of ns bs)
simple_again frame (plain_piece t cs) ns bs ready simple =
    let n : Head = head_of frame.ids (plain_piece t cs) in
    at_simple frame t n ns (joined_by (spelling t) cs ∷ bs) encodings.Plain (plain_piece t cs, rest_of ns bs) (placed frame.ids encodings.Plain (own_listed frame.ids encodings.Plain ready.listed)) (plain_again frame.ids t cs (number frame (rest_of (n ∷ ns) (joined_by (spelling t) cs ∷ bs))) ns bs ready.sound ready.real)
simple_again frame (constant_piece t c rows) ns bs ready simple =
    let n : Head = head_of frame.ids (constant_piece t c rows) in
    at_simple frame t n ns (spelling t c ∷ bs) encodings.Constant (constant_piece t c rows, rest_of ns bs) (placed frame.ids encodings.Constant (own_listed frame.ids encodings.Constant ready.listed)) (constant_again frame.ids t c rows (number frame (rest_of (n ∷ ns) (spelling t c ∷ bs))) ns bs ready.sound ready.real)
simple_again frame p ns bs ready simple = absurd cc

record CodeType (t : Ty) : Type 0 where
  type : PType
  is : t ≡ primitive type false
  number_is : code_type (code_number t) ≡ Some type

code_type_is : (t : Ty) → is_code_type t ≡ true → CodeType t
code_type_is (primitive U8 false) e = record { type = U8; is = refl; number_is = refl }
code_type_is (primitive U16 false) e = record { type = U16; is = refl; number_is = refl }
code_type_is (primitive U32 false) e = record { type = U32; is = refl; number_is = refl }
code_type_is (primitive U64 false) e = record { type = U64; is = refl; number_is = refl }
code_type_is t e = absurd cc

pub dict_again : (frame : Frame) (codes values : ChunkData) (k : ℕ) (ns : List Head) (bs : List (List ℕ)) → Ready frame.ids codes → Ready frame.ids values → is_simple codes ≡ true → is_simple values ≡ true → is_code_type (piece_type codes) ≡ true → is_dict_type (piece_type values) ≡ true
    → all_by (is_code (length (cells values))) (cells codes) ≡ true
    → dict_at frame (piece_type values) k (head_of frame.ids (dict_piece codes values)) (rest_of ((heads frame.ids codes ++ heads frame.ids values) ++ ns) ((buffers codes ++ buffers values) ++ bs)) ≡ Ok (dict_piece codes values, rest_of ns bs)
unfolding dict_at
dict_again frame codes values k ns bs codes_ready values_ready codes_simple values_simple code_kind dict_kind places =
    let ctx : List EncodingId = frame.ids in
    let kind = code_type_is (piece_type codes) code_kind in
    let nodes : (heads ctx codes ++ heads ctx values) ++ ns ≡ heads ctx codes ++ (heads ctx values ++ ns) = append_assoc (heads ctx codes) (heads ctx values) ns in
    let texts : (buffers codes ++ buffers values) ++ bs ≡ buffers codes ++ (buffers values ++ bs) = append_assoc (buffers codes) (buffers values) bs in
    let one : simple_at frame (primitive kind.type false) (rest_of (heads ctx codes ++ (heads ctx values ++ ns)) (buffers codes ++ (buffers values ++ bs))) ≡ Ok (codes, rest_of (heads ctx values ++ ns) (buffers values ++ bs)) = subst (λ (u : Ty). simple_at frame u (rest_of (heads ctx codes ++ (heads ctx values ++ ns)) (buffers codes ++ (buffers values ++ bs))) ≡ Ok (codes, rest_of (heads ctx values ++ ns) (buffers values ++ bs))) kind.is (simple_again frame codes (heads ctx values ++ ns) (buffers values ++ bs) codes_ready codes_simple) in
    let two = simple_again frame values ns bs values_ready values_simple in
    let rows : (length (cells codes) == length (map (picked (cells values)) (cells codes))) ≡ true = eq-eqb _ _ (sym (length-map (cells codes) (picked (cells values)))) in
    rw (dict_kind, nodes, texts, kind.number_is, one, two, rows, places) refl

-- ---- chunks of parts

-- a chunk is read as a part of its type
abbrev pub PartAgain : Frame → ChunkData → Type 0
PartAgain frame p = (ns : List Head) (bs : List (List ℕ)) → part_at frame (piece_type p) (own_of frame (piece_type p)) (rest_of (heads frame.ids p ++ ns) (buffers p ++ bs)) ≡ Ok (p, rest_of ns bs)

abbrev pub WholeAgain : Frame → ChunkData → Type 0
WholeAgain frame p = (ns : List Head) (bs : List (List ℕ)) → piece_at frame (piece_type p) (rest_of (heads frame.ids p ++ ns) (buffers p ++ bs)) ≡ Ok (p, rest_of ns bs)

pub record Again (frame : Frame) (p : ChunkData) : Type 0 where
  pub as_part : is_chunked p ≡ false → PartAgain frame p
  pub whole : WholeAgain frame p

pub pieces_of-pieces_in : (ps : ChunkList) → pieces_of (pieces_in ps) ≡ ps
pieces_of-pieces_in no_pieces = refl
pieces_of-pieces_in (part p ps) = ap (part p) (pieces_of-pieces_in ps)

not_true : (b : Bool) → not b ≡ true → b ≡ false
not_true true e = absurd cc
not_true false e = refl

parts_again : (frame : Frame) (t : Ty) (ps : ChunkList) (ns : List Head) (bs : List (List ℕ)) → AllByRecursion (Again frame) (pieces_in ps) → are_parts t (pieces_in ps) ≡ true
    → pieces_at (part_at frame t (own_of frame t)) (count_pieces ps) (rest_of (heads_below frame.ids ps ++ ns) (buffers_below ps ++ bs)) ≡ Ok (pieces_in ps, rest_of ns bs)
unfolding pieces_at
parts_again frame t no_pieces ns bs agains typed = refl
parts_again frame t (part p ps) ns bs agains typed =
    let ctx : List EncodingId = frame.ids in
    let read : Rest → Result (ChunkData × Rest) Fault = part_at frame t (own_of frame t) in
    let first : (ty_eq (piece_type p) t && not (is_chunked p)) ≡ true = (and_parts (ty_eq (piece_type p) t && not (is_chunked p)) _ typed).0 in
    let others : are_parts t (pieces_in ps) ≡ true = (and_parts (ty_eq (piece_type p) t && not (is_chunked p)) _ typed).1 in
    let kind : piece_type p ≡ t = (ty_eq_decides (piece_type p) t).0 (and_parts (ty_eq (piece_type p) t) _ first).0 in
    let apart : is_chunked p ≡ false = not_true (is_chunked p) (and_parts (ty_eq (piece_type p) t) _ first).1 in
    let nodes : (heads ctx p ++ heads_below ctx ps) ++ ns ≡ heads ctx p ++ (heads_below ctx ps ++ ns) = append_assoc (heads ctx p) (heads_below ctx ps) ns in
    let texts : (buffers p ++ buffers_below ps) ++ bs ≡ buffers p ++ (buffers_below ps ++ bs) = append_assoc (buffers p) (buffers_below ps) bs in
    let one : read (rest_of (heads ctx p ++ (heads_below ctx ps ++ ns)) (buffers p ++ (buffers_below ps ++ bs))) ≡ Ok (p, rest_of (heads_below ctx ps ++ ns) (buffers_below ps ++ bs)) = subst (λ (u : Ty). part_at frame u (own_of frame u) (rest_of (heads ctx p ++ (heads_below ctx ps ++ ns)) (buffers p ++ (buffers_below ps ++ bs))) ≡ Ok (p, rest_of (heads_below ctx ps ++ ns) (buffers_below ps ++ bs))) kind (agains.0.as_part apart (heads_below ctx ps ++ ns) (buffers_below ps ++ bs)) in
    rw (nodes, texts, one, parts_again frame t ps ns bs agains.1 others) refl

pub chunked_again : (frame : Frame) (t : Ty) (ps : ChunkList) (k : ℕ) (ns : List Head) (bs : List (List ℕ)) → AllByRecursion (Again frame) (pieces_in ps) → are_parts t (pieces_in ps) ≡ true
    → chunked_at t (part_at frame t (own_of frame t)) k (head_of frame.ids (chunked_piece t ps)) (rest_of (heads_below frame.ids ps ++ ns) (buffers_below ps ++ bs)) ≡ Ok (chunked_piece t ps, rest_of ns bs)
unfolding chunked_at
chunked_again frame t ps k ns bs agains typed =
    let rows : (length (joined_cells ps) == length (joined_cells ps)) ≡ true = eq-eqb _ _ refl in
    rw (parts_again frame t ps ns bs agains typed, pieces_of-pieces_in ps, rows) refl
