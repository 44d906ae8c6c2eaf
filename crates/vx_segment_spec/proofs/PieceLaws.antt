-- A chunk that is read is spelled by the nodes and the buffers that it took.
use Rattle.std.proofs.Common.{◌≡◌, ℕ, zero, suc, ◌+◌, ◌-◌, Bool, true, false, cond, eqb, List, [], ◌∷◌, ◌++◌, length, map, Option, Some, None, Result, Ok, Err, refl, sym, ap, subst, ◌∙◌, append_assoc, arith}
use Rattle.std.specs.Prelude.{◌&&◌, ◌==◌, ◌||◌, slice_get}
use Rattle.std.specs.List.{AllByRecursion}
use Rattle.std.proofs.lemmas.Bool.{eqb-true, eq-eqb, and_parts}
use Rattle.std.proofs.lemmas.List.{append-nil, length-map, length-replicate, nil_from_length}
use Rattle.vx_model.specs.declared.encoding.EncodingId.{EncodingId}
use Rattle.vx_model.specs.declared.encoding.EncodingId.TheVariants as encodings
use Rattle.vx_model.specs.declared.ptype.PType.{PType}
use Rattle.vx_model.specs.declared.ptype.PType.TheVariants.{U8, U16, U32, U64}
use Rattle.vx_model.specs.Words.{joined_by, all_by}
use Rattle.vx_model.specs.Numbers.{ptype_number, encoding_eq}
use Rattle.vx_model.specs.Distinct.{is_listed, first_repeat}
use Rattle.vx_model.specs.Places.{place_of}
use Rattle.vx_model.specs.Ty.{Ty, Tys, boolean, primitive, utf8, binary, list, struct, extension, no_fields, field, nullable}
use Rattle.vx_model.specs.CellData.{CellData, bit, u64_bytes, spelling}
use Rattle.vx_model.specs.ChunkData.{ChunkData, ChunkList, plain_piece, constant_piece, dict_piece, chunked_piece, list_piece, struct_piece, extension_piece, pieces_of, no_pieces, part, piece_type, cells, joined_cells, is_dict_type, is_code, are_offsets}
use Rattle.vx_chunk.specs.Encoded.{encoding_of}
use Rattle.vx_chunk.proofs.Lengths.{length-list_rows, length-struct_rows}
use Rattle.vx_segment_writer.specs.Head.{Head}
use Rattle.vx_segment_writer.specs.Segment.{validity_buffer, own_buffers, buffers, buffers_below, code_number, extra_of, count_pieces, child_count, head_of, heads, heads_below, first_of, own_refusal, refused, refused_below}
use Rattle.vx_cell_codec.specs.Reading.{cells_at, only_cell_at}
use Rattle.vx_cell_codec.specs.Columns.{offsets_at, flags_at}
use Rattle.vx_cell_codec.proofs.FilledLaws.{cells_take, only_take}
use Rattle.vx_cell_codec.proofs.ColumnLaws.{offsets_take, flags_take}
use Rattle.vx_byte_reader.specs.Places.{◌>>=◌}
use Rattle.vx_segment_spec.specs.Reading.{Fault, bad_type}
use Rattle.vx_segment_spec.specs.Segment.{lengths_of}
use Rattle.vx_segment_spec.specs.Pieces.{Rest, Frame, number, unless_bad, given, node_of, first_buffer, buffer_of, is_shaped, flag_buffers, flags_of, pieces_at, plain_at, constant_at, code_type, simple_of, simple_at, are_codes, dict_at, chunked_at, list_at, have_rows, struct_at, extension_at, list_own, struct_own, extension_own, part_of, part_at, whole_of, whole_at, no_pieces_at, piece_then, count_fields, own_of, columns_at, piece_at}
use Rattle.vx_byte_reader.proofs.FieldLaws.{IsBytes}
use Rattle.vx_byte_reader.proofs.PlaceLaws.{bind_ok, ok_is}
use Rattle.vx_segment_spec.proofs.BufferLaws.{lengths}
use Rattle.vx_segment_spec.proofs.PieceTypes.{unless_ok, given_ok, simple_typed}

-- what is known of what is still to be read: buffers are bytes, of the lengths that the nodes tell
pub record Fine (rest : Rest) : Type 0 where
  pub bytes : AllByRecursion IsBytes rest.buffers
  pub long : lengths rest.buffers ≡ lengths_of rest.nodes

-- the same behind a node whose buffers are still there
pub record Begun (n : Head) (rest : Rest) : Type 0 where
  pub bytes : AllByRecursion IsBytes rest.buffers
  pub long : lengths rest.buffers ≡ n.lengths ++ lengths_of rest.nodes

-- what was read took these nodes and buffers, and refuses no encoding
pub record Took (ns : List Head) (bs : List (List ℕ)) (taken : List Head) (taken_buffers : List (List ℕ)) (refusal : Option EncodingId) (after : Rest) : Type 0 where
  pub nodes : ns ≡ taken ++ after.nodes
  pub buffers_are : bs ≡ taken_buffers ++ after.buffers
  pub listed : refusal ≡ None
  pub fine : Fine after

abbrev pub TookPiece : List EncodingId → List Head → List (List ℕ) → ChunkData → Rest → Type 0
TookPiece ctx ns bs p after = Took ns bs (heads ctx p) (buffers p) (refused ctx p) after

abbrev pub TookAll : List EncodingId → List Head → List (List ℕ) → ChunkList → Rest → Type 0
TookAll ctx ns bs ps after = Took ns bs (heads_below ctx ps) (buffers_below ps) (refused_below ctx ps) after

pub both_none : (r s : Option EncodingId) → r ≡ None → s ≡ None → first_of r s ≡ None
both_none None s e f = f
both_none (Some x) s e f = absurd cc

pub took_then : (ns : List Head) (bs : List (List ℕ)) (hs gs : List Head) (cs ds : List (List ℕ)) (r s : Option EncodingId) (mid after : Rest) → Took ns bs hs cs r mid → Took mid.nodes mid.buffers gs ds s after → Took ns bs (hs ++ gs) (cs ++ ds) (first_of r s) after
took_then ns bs hs gs cs ds r s mid after one two =
    record {
      nodes = one.nodes ∙ ap (λ (x : List Head). hs ++ x) two.nodes ∙ sym (append_assoc hs gs after.nodes);
      buffers_are = one.buffers_are ∙ ap (λ (x : List (List ℕ)). cs ++ x) two.buffers_are ∙ sym (append_assoc cs ds after.buffers);
      listed = both_none r s one.listed two.listed;
      fine = two.fine;
    }

pub took_nothing : (rest : Rest) → Fine rest → Took rest.nodes rest.buffers [] [] None rest
took_nothing rest fine = record { nodes = refl; buffers_are = refl; listed = refl; fine = fine }

-- ---- the node itself

-- the node's index is the place of its encoding
pub record At (ctx : List EncodingId) (n : Head) (e : EncodingId) : Type 0 where
  pub listed : is_listed e ctx ≡ true
  pub place : place_of e ctx ≡ n.index

abbrev made_head : ℕ → ℕ → ℕ → List ℕ → ℕ → Head
made_head i r x ls c = record { index = i; rows = r; extra = x; lengths = ls; children = c }

pub head_is : (n m : Head) → n.index ≡ m.index → n.rows ≡ m.rows → n.extra ≡ m.extra → n.lengths ≡ m.lengths → n.children ≡ m.children → n ≡ m
head_is n m a b c d e =
    let one : made_head n.index n.rows n.extra n.lengths n.children ≡ made_head m.index m.rows m.extra m.lengths m.children = rw (a, b, c, d, e) refl in
    one

-- a node with its own buffers and what is below it
pub node_took : (ctx : List EncodingId) (n : Head) (id : EncodingId) (p : ChunkData) (rest mid after : Rest) (own below : List (List ℕ)) (hs : List Head) (r : Option EncodingId) → At ctx n id → n ≡ head_of ctx p → rest.buffers ≡ own ++ mid.buffers → mid.nodes ≡ rest.nodes
    → Took mid.nodes mid.buffers hs below r after → Took (n ∷ rest.nodes) rest.buffers (head_of ctx p ∷ hs) (own ++ below) (first_of (own_refusal ctx id) r) after
node_took ctx n id p rest mid after own below hs r at same split kept took =
    record {
      nodes = ap (λ (m : Head). m ∷ rest.nodes) same ∙ ap (λ (x : List Head). head_of ctx p ∷ x) (sym kept ∙ took.nodes);
      buffers_are = split ∙ ap (λ (x : List (List ℕ)). own ++ x) took.buffers_are ∙ sym (append_assoc own below after.buffers);
      listed = rw at.listed took.listed;
      fine = took.fine;
    }

-- ---- buffers of a node

pub no_lengths : (ms ns : List ℕ) → length ms ≡ 0 → ms ++ ns ≡ ns
no_lengths [] ns e = refl
no_lengths (m ∷ ms) ns e = absurd (omega (arith, e))

pub is_nil : (ms : List ℕ) → length ms ≡ 0 → ms ≡ []
is_nil [] e = refl
is_nil (m ∷ ms) e = absurd (omega (arith, e))

pub record One (x : ℕ) (xs ms ns : List ℕ) : Type 0 where
  pub own : ms ≡ x ∷ []
  pub rest : xs ≡ ns

one_length : (x : ℕ) (xs ms ns : List ℕ) → x ∷ xs ≡ ms ++ ns → length ms ≡ 1 → One x xs ms ns
one_length x xs [] ns e len = absurd (omega (arith, len))
one_length x xs (m ∷ []) ns e len = record { own = cc; rest = cc }
one_length x xs (m ∷ k ∷ ms) ns e len = absurd (omega (arith, len))

pub record Two (x y : ℕ) (xs ms ns : List ℕ) : Type 0 where
  pub own : ms ≡ x ∷ y ∷ []
  pub rest : xs ≡ ns

pub two_lengths : (x y : ℕ) (xs ms ns : List ℕ) → x ∷ y ∷ xs ≡ ms ++ ns → length ms ≡ 2 → Two x y xs ms ns
two_lengths x y xs [] ns e len = absurd (omega (arith, len))
two_lengths x y xs (m ∷ []) ns e len = absurd (omega (arith, len))
two_lengths x y xs (m ∷ k ∷ []) ns e len = record { own = cc; rest = cc }
two_lengths x y xs (m ∷ k ∷ l ∷ ms) ns e len = absurd (omega (arith, len))

pub record Buffer (rest : Rest) (b : List ℕ) (after : Rest) : Type 0 where
  pub split : rest.buffers ≡ b ∷ after.buffers
  pub kept : after.nodes ≡ rest.nodes

first_buffer_is : (k : ℕ) (ns : List Head) (bs : List (List ℕ)) (x : List ℕ × Rest) → first_buffer k ns bs ≡ Ok x → (bs ≡ x.0 ∷ x.1.buffers) × (x.1.nodes ≡ ns)
first_buffer_is k ns [] x e = absurd cc
first_buffer_is k ns (b ∷ bs) x e =
    let made : List ℕ × Rest = (b, record { nodes = ns; buffers = bs }) in
    subst (λ (y : List ℕ × Rest). ((b ∷ bs) ≡ y.0 ∷ y.1.buffers) × (y.1.nodes ≡ ns)) (ok_is made x e) (refl, refl)

pub buffer_is : (k : ℕ) (rest : Rest) (x : List ℕ × Rest) → buffer_of k rest ≡ Ok x → Buffer rest x.0 x.1
buffer_is k rest x e = let known = first_buffer_is k rest.nodes rest.buffers x e in record { split = known.0; kept = known.1 }

-- what the shape of a node says
pub record Shape (buffers children : ℕ) (n : Head) : Type 0 where
  pub extra : n.extra ≡ 0
  pub count : length n.lengths ≡ buffers
  pub below : n.children ≡ children

pub shape_of : (buffers children : ℕ) (n : Head) → is_shaped buffers children n ≡ true → Shape buffers children n
shape_of buffers children n e =
    let a = and_parts (n.extra == 0) ((length n.lengths == buffers) && (n.children == children)) e in
    let b = and_parts (length n.lengths == buffers) (n.children == children) a.1 in
    record { extra = eqb-true _ _ a.0; count = eqb-true _ _ b.0; below = eqb-true _ _ b.1 }

-- a node without buffers leaves all of them
pub begun_fine : (n : Head) (rest : Rest) → Begun n rest → length n.lengths ≡ 0 → Fine rest
begun_fine n rest begun none = record { bytes = begun.bytes; long = begun.long ∙ no_lengths n.lengths (lengths_of rest.nodes) none }

-- a node with one buffer leaves the others
pub record OneLeft (n : Head) (b : List ℕ) (after : Rest) : Type 0 where
  pub lengths_are : n.lengths ≡ length b ∷ []
  pub is_bytes : IsBytes b
  pub fine : Fine after

pub one_left : (n : Head) (rest : Rest) (b : List ℕ) (after : Rest) → Begun n rest → length n.lengths ≡ 1 → Buffer rest b after → OneLeft n b after
one_left n rest b after begun one buffer =
    let bytes : AllByRecursion IsBytes (b ∷ after.buffers) = subst (AllByRecursion IsBytes) buffer.split begun.bytes in
    let long : length b ∷ lengths after.buffers ≡ n.lengths ++ lengths_of after.nodes = ap lengths (sym buffer.split) ∙ begun.long ∙ ap (λ (x : List Head). n.lengths ++ lengths_of x) (sym buffer.kept) in
    let known = one_length (length b) (lengths after.buffers) n.lengths (lengths_of after.nodes) long one in
    record { lengths_are = known.own; is_bytes = bytes.0; fine = record { bytes = bytes.1; long = known.rest } }

-- ---- plain and constant chunks

took_leaf : (ctx : List EncodingId) (n : Head) (id : EncodingId) (p : ChunkData) (rest : Rest) (b : List ℕ) (after : Rest) → At ctx n id → n ≡ head_of ctx p → Buffer rest b after → Fine after
    → Took (n ∷ rest.nodes) rest.buffers (head_of ctx p ∷ []) (b ∷ []) (own_refusal ctx id) after
took_leaf ctx n id p rest b after at same buffer fine =
    record {
      nodes = ap (λ (m : Head). m ∷ rest.nodes) same ∙ ap (λ (x : List Head). head_of ctx p ∷ x) (sym buffer.kept);
      buffers_are = buffer.split;
      listed = rw at.listed refl;
      fine = fine;
    }

pub plain_takes : (ctx : List EncodingId) (t : Ty) (k : ℕ) (n : Head) (rest : Rest) (x : ChunkData × Rest) → At ctx n encodings.Plain → Begun n rest → plain_at t k n rest ≡ Ok x → TookPiece ctx (n ∷ rest.nodes) rest.buffers x.0 x.1
unfolding plain_at
plain_takes ctx t k n rest x at begun e =
    let a = unless_ok k (is_shaped 1 0 n) (buffer_of k rest >>= λ buffer. given k (cells_at t n.rows buffer.0) >>= λ cs. Ok (plain_piece t cs, buffer.1)) x e in
    let b = bind_ok (buffer_of k rest) (λ buffer. given k (cells_at t n.rows buffer.0) >>= λ cs. Ok (plain_piece t cs, buffer.1)) x a.1 in
    let c = bind_ok (given k (cells_at t n.rows b.0.0)) (λ cs. Ok (plain_piece t cs, b.0.1)) x b.2 in
    let shape = shape_of 1 0 n a.0 in
    let buffer = buffer_is k rest b.0 b.1 in
    let left = one_left n rest b.0.0 b.0.1 begun shape.count buffer in
    let filled = cells_take t n.rows b.0.0 c.0 left.is_bytes (given_ok k (cells_at t n.rows b.0.0) c.0 c.1) in
    let p : ChunkData = plain_piece t c.0 in
    let long : n.lengths ≡ length (joined_by (spelling t) c.0) ∷ [] = left.lengths_are ∙ ap (λ (s : List ℕ). length s ∷ []) filled.spelled in
    let same : n ≡ head_of ctx p = head_is n (head_of ctx p) (sym at.place) (sym filled.count) shape.extra long shape.below in
    let took = took_leaf ctx n encodings.Plain p rest b.0.0 b.0.1 at same buffer left.fine in
    let made : ChunkData × Rest = (p, b.0.1) in
    subst (λ (y : ChunkData × Rest). TookPiece ctx (n ∷ rest.nodes) rest.buffers y.0 y.1) (ok_is made x c.2) (subst (λ (s : List ℕ). Took (n ∷ rest.nodes) rest.buffers (head_of ctx p ∷ []) (s ∷ []) (own_refusal ctx encodings.Plain) b.0.1) filled.spelled took)

pub constant_takes : (ctx : List EncodingId) (t : Ty) (k : ℕ) (n : Head) (rest : Rest) (x : ChunkData × Rest) → At ctx n encodings.Constant → Begun n rest → constant_at t k n rest ≡ Ok x → TookPiece ctx (n ∷ rest.nodes) rest.buffers x.0 x.1
unfolding constant_at
constant_takes ctx t k n rest x at begun e =
    let a = unless_ok k (is_shaped 1 0 n) (buffer_of k rest >>= λ buffer. given k (only_cell_at t buffer.0) >>= λ c. Ok (constant_piece t c n.rows, buffer.1)) x e in
    let b = bind_ok (buffer_of k rest) (λ buffer. given k (only_cell_at t buffer.0) >>= λ c. Ok (constant_piece t c n.rows, buffer.1)) x a.1 in
    let c = bind_ok (given k (only_cell_at t b.0.0)) (λ c. Ok (constant_piece t c n.rows, b.0.1)) x b.2 in
    let shape = shape_of 1 0 n a.0 in
    let buffer = buffer_is k rest b.0 b.1 in
    let left = one_left n rest b.0.0 b.0.1 begun shape.count buffer in
    let filled = only_take t b.0.0 c.0 left.is_bytes (given_ok k (only_cell_at t b.0.0) c.0 c.1) in
    let text : b.0.0 ≡ spelling t c.0 = filled.spelled ∙ append-nil (spelling t c.0) in
    let p : ChunkData = constant_piece t c.0 n.rows in
    let long : n.lengths ≡ length (spelling t c.0) ∷ [] = left.lengths_are ∙ ap (λ (s : List ℕ). length s ∷ []) text in
    let same : n ≡ head_of ctx p = head_is n (head_of ctx p) (sym at.place) (sym (length-replicate n.rows c.0)) shape.extra long shape.below in
    let took = took_leaf ctx n encodings.Constant p rest b.0.0 b.0.1 at same buffer left.fine in
    let made : ChunkData × Rest = (p, b.0.1) in
    subst (λ (y : ChunkData × Rest). TookPiece ctx (n ∷ rest.nodes) rest.buffers y.0 y.1) (ok_is made x c.2) (subst (λ (s : List ℕ). Took (n ∷ rest.nodes) rest.buffers (head_of ctx p ∷ []) (s ∷ []) (own_refusal ctx encodings.Constant) b.0.1) text took)
