-- A chunk that is read in an encoding with parts is spelled by the nodes and the buffers that it took.
use Rattle.std.proofs.Common.{◌≡◌, ℕ, zero, suc, ◌+◌, ◌-◌, Bool, true, false, cond, eqb, List, [], ◌∷◌, ◌++◌, length, map, Option, Some, None, Result, Ok, Err, refl, sym, ap, subst, ◌∙◌, append_assoc, arith}
use Rattle.std.specs.Prelude.{◌&&◌, ◌==◌, slice_get}
use Rattle.std.specs.List.{AllByRecursion}
use Rattle.std.proofs.lemmas.Bool.{eqb-true, and_parts}
use Rattle.std.proofs.lemmas.List.{append-nil, length-map}
use Rattle.vx_model.specs.declared.encoding.EncodingId.{EncodingId}
use Rattle.vx_model.specs.declared.encoding.EncodingId.TheVariants as encodings
use Rattle.vx_model.specs.declared.ptype.PType.{PType}
use Rattle.vx_model.specs.declared.ptype.PType.TheVariants.{U8, U16, U32, U64}
use Rattle.vx_model.specs.Words.{joined_by, all_by}
use Rattle.vx_model.specs.Numbers.{ptype_number}
use Rattle.vx_model.specs.Ty.{Ty, primitive, nullable}
use Rattle.vx_model.specs.CellData.{bit, u64_bytes}
use Rattle.vx_model.specs.ChunkData.{ChunkData, ChunkList, dict_piece, chunked_piece, list_piece, struct_piece, extension_piece, pieces_of, piece_type, cells, joined_cells, each_cells, picked, is_dict_type, is_code, are_offsets}
use Rattle.vx_chunk.proofs.Lengths.{length-list_rows, length-struct_rows}
use Rattle.vx_segment_writer.specs.Head.{Head}
use Rattle.vx_segment_writer.specs.Segment.{validity_buffer, own_buffers, buffers, buffers_below, code_number, count_pieces, head_of, heads, heads_below, first_of, own_refusal, refused, refused_below}
use Rattle.vx_segment_writer.proofs.Steps.{count_is}
use Rattle.vx_cell_codec.specs.Columns.{offsets_at, flags_at}
use Rattle.vx_cell_codec.proofs.ColumnLaws.{offsets_take, flags_take}
use Rattle.vx_byte_reader.specs.Places.{◌>>=◌}
use Rattle.vx_segment_spec.specs.Reading.{Fault}
use Rattle.vx_segment_spec.specs.Segment.{lengths_of}
use Rattle.vx_segment_spec.specs.Pieces.{Rest, Frame, number, unless_bad, given, first_node, node_of, buffer_of, is_shaped, flag_buffers, flags_of, pieces_at, code_type, simple_of, simple_at, are_codes, dict_at, chunked_at, list_at, have_rows, struct_at, extension_at}
use Rattle.vx_byte_reader.proofs.FieldLaws.{IsBytes}
use Rattle.vx_byte_reader.proofs.PlaceLaws.{bind_ok, ok_is}
use Rattle.vx_segment_spec.proofs.BufferLaws.{lengths}
use Rattle.vx_segment_spec.proofs.PieceTypes.{unless_ok, given_ok, just, simple_typed}
use Rattle.vx_segment_spec.proofs.PieceLaws.{Fine, Begun, Took, TookPiece, TookAll, took_then, took_nothing, At, head_is, node_took, no_lengths, is_nil, Buffer, buffer_is, Shape, shape_of, begun_fine, OneLeft, one_left, plain_takes, constant_takes}

-- a reader of chunks takes what it spells
abbrev pub Takes : List EncodingId → (Rest → Result (ChunkData × Rest) Fault) → Type 0
Takes ctx read = (rest : Rest) (x : ChunkData × Rest) → Fine rest → read rest ≡ Ok x → TookPiece ctx rest.nodes rest.buffers x.0 x.1

abbrev pub TakesAll : List EncodingId → (Rest → Result (List ChunkData × Rest) Fault) → Type 0
TakesAll ctx read = (rest : Rest) (x : List ChunkData × Rest) → Fine rest → read rest ≡ Ok x → TookAll ctx rest.nodes rest.buffers (pieces_of x.0) x.1

-- ---- several

pub pieces_take : (ctx : List EncodingId) (read : Rest → Result (ChunkData × Rest) Fault) → Takes ctx read → (n : ℕ) (rest : Rest) (x : List ChunkData × Rest) → Fine rest → pieces_at read n rest ≡ Ok x
    → TookAll ctx rest.nodes rest.buffers (pieces_of x.0) x.1 × (length x.0 ≡ n)
unfolding pieces_at
pieces_take ctx read takes zero rest x fine e =
    let made : List ChunkData × Rest = ([], rest) in
    subst (λ (y : List ChunkData × Rest). TookAll ctx rest.nodes rest.buffers (pieces_of y.0) y.1 × (length y.0 ≡ 0)) (ok_is made x e) (took_nothing rest fine, refl)
pieces_take ctx read takes (suc n) rest x fine e =
    let a = bind_ok (read rest) (λ first. pieces_at read n first.1 >>= λ others. Ok (first.0 ∷ others.0, others.1)) x e in
    let b = bind_ok (pieces_at read n a.0.1) (λ others. Ok (a.0.0 ∷ others.0, others.1)) x a.2 in
    let first = takes rest a.0 fine a.1 in
    let others = pieces_take ctx read takes n a.0.1 b.0 first.fine b.1 in
    let both_took = took_then rest.nodes rest.buffers (heads ctx a.0.0) (heads_below ctx (pieces_of b.0.0)) (buffers a.0.0) (buffers_below (pieces_of b.0.0)) (refused ctx a.0.0) (refused_below ctx (pieces_of b.0.0)) a.0.1 b.0.1 first others.0 in
    let made : List ChunkData × Rest = (a.0.0 ∷ b.0.0, b.0.1) in
    subst (λ (y : List ChunkData × Rest). TookAll ctx rest.nodes rest.buffers (pieces_of y.0) y.1 × (length y.0 ≡ suc n)) (ok_is made x b.2) (both_took, ap suc others.1)

-- ---- dictionaries

-- the encoding that an index stands for has it as its place
abbrev pub Indexed : List EncodingId → Type 0
Indexed ctx = (n : Head) (e : EncodingId) → slice_get ctx n.index ≡ Some e → At ctx n e

simple_of_takes : (ctx : List EncodingId) (t : Ty) (k : ℕ) (n : Head) (id : Option EncodingId) (rest : Rest) (x : ChunkData × Rest) → ((e : EncodingId) → id ≡ Some e → At ctx n e) → Begun n rest → simple_of t k n id rest ≡ Ok x → TookPiece ctx (n ∷ rest.nodes) rest.buffers x.0 x.1
simple_of_takes ctx t k n (Some encodings.Plain) rest x at begun e = plain_takes ctx t k n rest x (at encodings.Plain refl) begun e
simple_of_takes ctx t k n (Some encodings.Constant) rest x at begun e = constant_takes ctx t k n rest x (at encodings.Constant refl) begun e
simple_of_takes ctx t k n id rest x at begun e = absurd cc

pub record FirstNode (rest : Rest) (n : Head) (after : Rest) : Type 0 where
  pub nodes : rest.nodes ≡ n ∷ after.nodes
  pub buffers_are : after.buffers ≡ rest.buffers

first_node_is : (k : ℕ) (bs : List (List ℕ)) (ns : List Head) (x : Head × Rest) → first_node k bs ns ≡ Ok x → (ns ≡ x.0 ∷ x.1.nodes) × (x.1.buffers ≡ bs)
first_node_is k bs [] x e = absurd cc
first_node_is k bs (n ∷ ns) x e =
    let made : Head × Rest = (n, record { nodes = ns; buffers = bs }) in
    subst (λ (y : Head × Rest). ((n ∷ ns) ≡ y.0 ∷ y.1.nodes) × (y.1.buffers ≡ bs)) (ok_is made x e) (refl, refl)

pub node_is : (frame : Frame) (rest : Rest) (x : Head × Rest) → node_of frame rest ≡ Ok x → FirstNode rest x.0 x.1
node_is frame rest x e = let known = first_node_is (number frame rest) rest.buffers rest.nodes x e in record { nodes = known.0; buffers_are = known.1 }

-- behind the node that came first
pub begun_at : (rest : Rest) (n : Head) (after : Rest) → Fine rest → FirstNode rest n after → Begun n after
begun_at rest n after fine first =
    record {
      bytes = subst (AllByRecursion IsBytes) (sym first.buffers_are) fine.bytes;
      long = ap lengths first.buffers_are ∙ fine.long ∙ ap lengths_of first.nodes;
    }

-- what the node and what follows it took, is taken of the rest
pub took_at : (ctx : List EncodingId) (rest : Rest) (n : Head) (after : Rest) (p : ChunkData) (last : Rest) → FirstNode rest n after → TookPiece ctx (n ∷ after.nodes) after.buffers p last → TookPiece ctx rest.nodes rest.buffers p last
took_at ctx rest n after p last first took =
    subst (λ (ns : List Head). TookPiece ctx ns rest.buffers p last) (sym first.nodes) (subst (λ (bs : List (List ℕ)). TookPiece ctx (n ∷ after.nodes) bs p last) first.buffers_are took)

pub simple_takes : (frame : Frame) (t : Ty) → Indexed frame.ids → Takes frame.ids (simple_at frame t)
unfolding simple_at
simple_takes frame t indexed rest x fine e =
    let a = bind_ok (node_of frame rest) (λ node. simple_of t (number frame rest) node.0 (slice_get frame.ids node.0.index) node.1) x e in
    let first = node_is frame rest a.0 a.1 in
    took_at frame.ids rest a.0.0 a.0.1 x.0 x.1 first (simple_of_takes frame.ids t (number frame rest) a.0.0 (slice_get frame.ids a.0.0.index) a.0.1 x (λ id is. indexed a.0.0 id is) (begun_at rest a.0.0 a.0.1 fine first) a.2)

some_is : {A : Type 0} (x y : A) → just x ≡ just y → x ≡ y
some_is x y e = cc

codes_number : (n : ℕ) (p : PType) → code_type n ≡ Some p → n ≡ ptype_number p
codes_number zero p e = ap ptype_number (some_is U8 p e)
codes_number (suc zero) p e = ap ptype_number (some_is U16 p e)
codes_number (suc (suc zero)) p e = ap ptype_number (some_is U32 p e)
codes_number (suc (suc (suc zero))) p e = ap ptype_number (some_is U64 p e)
codes_number (suc (suc (suc (suc n)))) p e = absurd cc

pub dict_takes : (frame : Frame) (t : Ty) (k : ℕ) (n : Head) (rest : Rest) (x : ChunkData × Rest) → Indexed frame.ids → At frame.ids n encodings.Dict → Begun n rest → dict_at frame t k n rest ≡ Ok x → TookPiece frame.ids (n ∷ rest.nodes) rest.buffers x.0 x.1
unfolding dict_at
dict_takes frame t k n rest x indexed at begun e =
    let ctx : List EncodingId = frame.ids in
    let a = unless_ok k (is_dict_type t && ((length n.lengths == 0) && (n.children == 2))) (given k (code_type n.extra) >>= λ p. simple_at frame (primitive p false) rest >>= λ codes. simple_at frame t codes.1 >>= λ values. unless_bad k (are_codes n.rows codes.0 values.0) (Ok (dict_piece codes.0 values.0, values.1))) x e in
    let b = bind_ok (given k (code_type n.extra)) (λ p. simple_at frame (primitive p false) rest >>= λ codes. simple_at frame t codes.1 >>= λ values. unless_bad k (are_codes n.rows codes.0 values.0) (Ok (dict_piece codes.0 values.0, values.1))) x a.1 in
    let c = bind_ok (simple_at frame (primitive b.0 false) rest) (λ codes. simple_at frame t codes.1 >>= λ values. unless_bad k (are_codes n.rows codes.0 values.0) (Ok (dict_piece codes.0 values.0, values.1))) x b.2 in
    let d = bind_ok (simple_at frame t c.0.1) (λ values. unless_bad k (are_codes n.rows c.0.0 values.0) (Ok (dict_piece c.0.0 values.0, values.1))) x c.2 in
    let f = unless_ok k (are_codes n.rows c.0.0 d.0.0) (Ok (dict_piece c.0.0 d.0.0, d.0.1)) x d.2 in
    let codes : ChunkData = c.0.0 in
    let values : ChunkData = d.0.0 in
    let shape = and_parts (is_dict_type t) ((length n.lengths == 0) && (n.children == 2)) a.0 in
    let counts = and_parts (length n.lengths == 0) (n.children == 2) shape.1 in
    let none : length n.lengths ≡ 0 = eqb-true _ _ counts.0 in
    let rows = and_parts (length (cells codes) == n.rows) (all_by (is_code (length (cells values))) (cells codes)) f.0 in
    let fine = begun_fine n rest begun none in
    let one = simple_takes frame (primitive b.0 false) indexed rest c.0 fine c.1 in
    let two = simple_takes frame t indexed c.0.1 d.0 one.fine d.1 in
    let below = took_then rest.nodes rest.buffers (heads ctx codes) (heads ctx values) (buffers codes) (buffers values) (refused ctx codes) (refused ctx values) c.0.1 d.0.1 one two in
    let p : ChunkData = dict_piece codes values in
    let number_is : n.extra ≡ code_number (piece_type codes) = codes_number n.extra b.0 (given_ok k (code_type n.extra) b.0 b.1) ∙ ap code_number (sym (simple_typed frame (primitive b.0 false) rest c.0 c.1).typed) in
    let rows_are : n.rows ≡ length (map (picked (cells values)) (cells codes)) = rw length-map (sym (eqb-true _ _ rows.0)) in
    let same : n ≡ head_of ctx p = head_is n (head_of ctx p) (sym at.place) rows_are number_is (is_nil n.lengths none) (eqb-true _ _ counts.1) in
    let made : ChunkData × Rest = (p, d.0.1) in
    subst (λ (y : ChunkData × Rest). TookPiece ctx (n ∷ rest.nodes) rest.buffers y.0 y.1) (ok_is made x f.1)
    (node_took ctx n encodings.Dict p rest rest d.0.1 [] (buffers codes ++ buffers values) (heads ctx codes ++ heads ctx values) (first_of (refused ctx codes) (refused ctx values)) at same refl refl below)

-- ---- chunks of parts

pub chunked_takes : (ctx : List EncodingId) (t : Ty) (read : Rest → Result (ChunkData × Rest) Fault) (k : ℕ) (n : Head) (rest : Rest) (x : ChunkData × Rest) → Takes ctx read → At ctx n encodings.Chunked → Begun n rest → chunked_at t read k n rest ≡ Ok x → TookPiece ctx (n ∷ rest.nodes) rest.buffers x.0 x.1
unfolding chunked_at
chunked_takes ctx t read k n rest x takes at begun e =
    let a = unless_ok k ((n.extra == 0) && (length n.lengths == 0)) (pieces_at read n.children rest >>= λ parts. unless_bad k (length (joined_cells (pieces_of parts.0)) == n.rows) (Ok (chunked_piece t (pieces_of parts.0), parts.1))) x e in
    let b = bind_ok (pieces_at read n.children rest) (λ parts. unless_bad k (length (joined_cells (pieces_of parts.0)) == n.rows) (Ok (chunked_piece t (pieces_of parts.0), parts.1))) x a.1 in
    let c = unless_ok k (length (joined_cells (pieces_of b.0.0)) == n.rows) (Ok (chunked_piece t (pieces_of b.0.0), b.0.1)) x b.2 in
    let bare = and_parts (n.extra == 0) (length n.lengths == 0) a.0 in
    let none : length n.lengths ≡ 0 = eqb-true _ _ bare.1 in
    let below = pieces_take ctx read takes n.children rest b.0 (begun_fine n rest begun none) b.1 in
    let ps : ChunkList = pieces_of b.0.0 in
    let p : ChunkData = chunked_piece t ps in
    let same : n ≡ head_of ctx p = head_is n (head_of ctx p) (sym at.place) (sym (eqb-true _ _ c.0)) (eqb-true _ _ bare.0) (is_nil n.lengths none) (sym (count_is b.0.0 ∙ below.1)) in
    let made : ChunkData × Rest = (p, b.0.1) in
    subst (λ (y : ChunkData × Rest). TookPiece ctx (n ∷ rest.nodes) rest.buffers y.0 y.1) (ok_is made x c.1)
    (node_took ctx n encodings.Chunked p rest rest b.0.1 [] (buffers_below ps) (heads_below ctx ps) (refused_below ctx ps) at same refl refl below.0)

-- ---- flags

-- the buffer of flags, where the type is nullable
record Flags (t : Ty) (rest : Rest) (valid : List Bool) (after : Rest) : Type 0 where
  split : rest.buffers ≡ validity_buffer t valid ++ after.buffers
  kept : after.nodes ≡ rest.nodes
  bytes : AllByRecursion IsBytes after.buffers
  long : lengths rest.buffers ≡ map (λ b. length b) (validity_buffer t valid) ++ lengths after.buffers

with_flags : (t : Ty) (valid : List Bool) → nullable t ≡ true → validity_buffer t valid ≡ map bit valid ∷ []
with_flags t valid kind = rw kind refl

flags_are : (t : Ty) (b : Bool) (k rows : ℕ) (rest : Rest) (x : List Bool × Rest) → nullable t ≡ b → AllByRecursion IsBytes rest.buffers → flags_of b k rows rest ≡ Ok x → Flags t rest x.0 x.1
unfolding flags_of
flags_are t false k rows rest x kind bytes e =
    let made : List Bool × Rest = ([], rest) in
    subst (λ (y : List Bool × Rest). Flags t rest y.0 y.1) (ok_is made x e) (record { split = rw kind refl; kept = refl; bytes = bytes; long = rw kind refl })
flags_are t true k rows rest x kind bytes e =
    let a = bind_ok (buffer_of k rest) (λ buffer. given k (flags_at rows buffer.0) >>= λ flags. Ok (flags, buffer.1)) x e in
    let b = bind_ok (given k (flags_at rows a.0.0)) (λ flags. Ok (flags, a.0.1)) x a.2 in
    let buffer = buffer_is k rest a.0 a.1 in
    let split : AllByRecursion IsBytes (a.0.0 ∷ a.0.1.buffers) = subst (AllByRecursion IsBytes) buffer.split bytes in
    let known = flags_take rows a.0.0 b.0 split.0 (given_ok k (flags_at rows a.0.0) b.0 b.1) in
    let made : List Bool × Rest = (b.0, a.0.1) in
    let is : rest.buffers ≡ map bit b.0 ∷ a.0.1.buffers = buffer.split ∙ ap (λ (s : List ℕ). s ∷ a.0.1.buffers) known.spelled in
    subst (λ (y : List Bool × Rest). Flags t rest y.0 y.1) (ok_is made x b.2) (record {
      split = is ∙ ap (λ (bs : List (List ℕ)). bs ++ a.0.1.buffers) (sym (with_flags t b.0 kind));
      kept = buffer.kept;
      bytes = split.1;
      long = ap lengths is ∙ ap (λ (bs : List (List ℕ)). map (λ s. length s) bs ++ lengths a.0.1.buffers) (sym (with_flags t b.0 kind));
    })

-- lengths of a node's own buffers, where so many of them are its own
cut_lengths : (own ms ns xs : List ℕ) → own ++ xs ≡ ms ++ ns → length own ≡ length ms → (ms ≡ own) × (xs ≡ ns)
cut_lengths [] [] ns xs e len = (refl, e)
cut_lengths [] (m ∷ ms) ns xs e len = absurd (omega (arith, len))
cut_lengths (o ∷ own) [] ns xs e len = absurd (omega (arith, len))
cut_lengths (o ∷ own) (m ∷ ms) ns xs e len =
    let known = cut_lengths own ms ns xs (tails e) (omega (arith, len)) in
    (rw (heads_same e, known.0) refl, known.1)
  where
    heads_same : o ∷ (own ++ xs) ≡ m ∷ (ms ++ ns) → m ≡ o
    heads_same h = cc

    tails : o ∷ (own ++ xs) ≡ m ∷ (ms ++ ns) → own ++ xs ≡ ms ++ ns
    tails h = cc

flag_count : (t : Ty) (valid : List Bool) → length (map (λ b. length b) (validity_buffer t valid)) ≡ flag_buffers (nullable t)
flag_count t valid = flags_by (nullable t)
  where
    flags_by : (b : Bool) → length (map (λ s. length s) (cond b (map bit valid ∷ []) [])) ≡ flag_buffers b
    flags_by true = refl
    flags_by false = refl

pub list_takes : (ctx : List EncodingId) (t : Ty) (read : Rest → Result (ChunkData × Rest) Fault) (k : ℕ) (n : Head) (rest : Rest) (x : ChunkData × Rest) → Takes ctx read → At ctx n encodings.List → Begun n rest → list_at t (nullable t) read k n rest ≡ Ok x → TookPiece ctx (n ∷ rest.nodes) rest.buffers x.0 x.1
unfolding list_at
list_takes ctx t read k n rest x takes at begun e =
    let a = unless_ok k (is_shaped (suc (flag_buffers (nullable t))) 1 n) (buffer_of k rest >>= λ buffer. given k (offsets_at n.rows buffer.0) >>= λ offsets. flags_of (nullable t) k n.rows buffer.1 >>= λ valid. read valid.1 >>= λ elements. unless_bad k (are_offsets (length (cells elements.0)) offsets) (Ok (list_piece t elements.0 offsets valid.0, elements.1))) x e in
    let b = bind_ok (buffer_of k rest) (λ buffer. given k (offsets_at n.rows buffer.0) >>= λ offsets. flags_of (nullable t) k n.rows buffer.1 >>= λ valid. read valid.1 >>= λ elements. unless_bad k (are_offsets (length (cells elements.0)) offsets) (Ok (list_piece t elements.0 offsets valid.0, elements.1))) x a.1 in
    let c = bind_ok (given k (offsets_at n.rows b.0.0)) (λ offsets. flags_of (nullable t) k n.rows b.0.1 >>= λ valid. read valid.1 >>= λ elements. unless_bad k (are_offsets (length (cells elements.0)) offsets) (Ok (list_piece t elements.0 offsets valid.0, elements.1))) x b.2 in
    let d = bind_ok (flags_of (nullable t) k n.rows b.0.1) (λ valid. read valid.1 >>= λ elements. unless_bad k (are_offsets (length (cells elements.0)) c.0) (Ok (list_piece t elements.0 c.0 valid.0, elements.1))) x c.2 in
    let f = bind_ok (read d.0.1) (λ elements. unless_bad k (are_offsets (length (cells elements.0)) c.0) (Ok (list_piece t elements.0 c.0 d.0.0, elements.1))) x d.2 in
    let g = unless_ok k (are_offsets (length (cells f.0.0)) c.0) (Ok (list_piece t f.0.0 c.0 d.0.0, f.0.1)) x f.2 in
    let offsets : List ℕ = c.0 in
    let valid : List Bool = d.0.0 in
    let mid : Rest = d.0.1 in
    let shape = shape_of (suc (flag_buffers (nullable t))) 1 n a.0 in
    let buffer = buffer_is k rest b.0 b.1 in
    let bytes : AllByRecursion IsBytes (b.0.0 ∷ b.0.1.buffers) = subst (AllByRecursion IsBytes) buffer.split begun.bytes in
    let known = offsets_take n.rows b.0.0 offsets bytes.0 (given_ok k (offsets_at n.rows b.0.0) offsets c.1) in
    let flags = flags_are t (nullable t) k n.rows b.0.1 d.0 refl bytes.1 d.1 in
    let p : ChunkData = list_piece t f.0.0 offsets valid in
    let split : rest.buffers ≡ own_buffers p ++ mid.buffers = buffer.split ∙ ap (λ (s : List ℕ). s ∷ b.0.1.buffers) known.spelled ∙ ap (λ (bs : List (List ℕ)). joined_by u64_bytes offsets ∷ bs) flags.split in
    let kept : mid.nodes ≡ rest.nodes = flags.kept ∙ buffer.kept in
    let text : length b.0.0 ≡ length (joined_by u64_bytes offsets) = ap (λ (s : List ℕ). length s) known.spelled in
    let long : length (joined_by u64_bytes offsets) ∷ (map (λ s. length s) (validity_buffer t valid) ++ lengths mid.buffers) ≡ n.lengths ++ lengths_of mid.nodes = ap (λ (m : ℕ). m ∷ (map (λ s. length s) (validity_buffer t valid) ++ lengths mid.buffers)) (sym text) ∙ ap (λ (x : List ℕ). length b.0.0 ∷ x) (sym flags.long) ∙ ap lengths (sym buffer.split) ∙ begun.long ∙ ap (λ (x : List Head). n.lengths ++ lengths_of x) (sym kept) in
    let own_count : length (map (λ s. length s) (own_buffers p)) ≡ length n.lengths = ap suc (flag_count t valid) ∙ sym shape.count in
    let cut = cut_lengths (map (λ s. length s) (own_buffers p)) n.lengths (lengths_of mid.nodes) (lengths mid.buffers) long own_count in
    let fine : Fine mid = record { bytes = flags.bytes; long = cut.1 } in
    let below = takes mid f.0 fine f.1 in
    let rows_are : n.rows ≡ length (cells p) = less_one n.rows (length offsets) known.count ∙ sym (length-list_rows (cells f.0.0) offsets valid) in
    let same : n ≡ head_of ctx p = head_is n (head_of ctx p) (sym at.place) rows_are shape.extra cut.0 shape.below in
    let made : ChunkData × Rest = (p, f.0.1) in
    subst (λ (y : ChunkData × Rest). TookPiece ctx (n ∷ rest.nodes) rest.buffers y.0 y.1) (ok_is made x g.1)
    (node_took ctx n encodings.List p rest mid f.0.1 (own_buffers p) (buffers f.0.0) (heads ctx f.0.0) (refused ctx f.0.0) at same split kept below)
  where
    less_one : (rows count : ℕ) → count ≡ suc rows → rows ≡ count - 1
    less_one rows count is = omega (arith, is)

pub struct_takes : (ctx : List EncodingId) (t : Ty) (fields : ℕ) (read : Rest → Result (List ChunkData × Rest) Fault) (k : ℕ) (n : Head) (rest : Rest) (x : ChunkData × Rest) → TakesAll ctx read → ((s : Rest) (y : List ChunkData × Rest) → read s ≡ Ok y → length y.0 ≡ fields)
    → At ctx n encodings.Struct → Begun n rest → struct_at t (nullable t) fields read k n rest ≡ Ok x → TookPiece ctx (n ∷ rest.nodes) rest.buffers x.0 x.1
unfolding struct_at
struct_takes ctx t fields read k n rest x takes counted at begun e =
    let a = unless_ok k (is_shaped (flag_buffers (nullable t)) fields n) (flags_of (nullable t) k n.rows rest >>= λ valid. read valid.1 >>= λ columns. unless_bad k (have_rows n.rows columns.0) (Ok (struct_piece t (pieces_of columns.0) valid.0 n.rows, columns.1))) x e in
    let b = bind_ok (flags_of (nullable t) k n.rows rest) (λ valid. read valid.1 >>= λ columns. unless_bad k (have_rows n.rows columns.0) (Ok (struct_piece t (pieces_of columns.0) valid.0 n.rows, columns.1))) x a.1 in
    let c = bind_ok (read b.0.1) (λ columns. unless_bad k (have_rows n.rows columns.0) (Ok (struct_piece t (pieces_of columns.0) b.0.0 n.rows, columns.1))) x b.2 in
    let d = unless_ok k (have_rows n.rows c.0.0) (Ok (struct_piece t (pieces_of c.0.0) b.0.0 n.rows, c.0.1)) x c.2 in
    let valid : List Bool = b.0.0 in
    let mid : Rest = b.0.1 in
    let ps : ChunkList = pieces_of c.0.0 in
    let p : ChunkData = struct_piece t ps valid n.rows in
    let shape = shape_of (flag_buffers (nullable t)) fields n a.0 in
    let flags = flags_are t (nullable t) k n.rows rest b.0 refl begun.bytes b.1 in
    let long : map (λ s. length s) (validity_buffer t valid) ++ lengths mid.buffers ≡ n.lengths ++ lengths_of mid.nodes = sym flags.long ∙ begun.long ∙ ap (λ (x : List Head). n.lengths ++ lengths_of x) (sym flags.kept) in
    let own_count : length (map (λ s. length s) (own_buffers p)) ≡ length n.lengths = flag_count t valid ∙ sym shape.count in
    let cut = cut_lengths (map (λ s. length s) (own_buffers p)) n.lengths (lengths_of mid.nodes) (lengths mid.buffers) long own_count in
    let below = takes mid c.0 (record { bytes = flags.bytes; long = cut.1 }) c.1 in
    let children : n.children ≡ count_pieces ps = shape.below ∙ sym (count_is c.0.0 ∙ counted mid c.0 c.1) in
    let same : n ≡ head_of ctx p = head_is n (head_of ctx p) (sym at.place) (sym (length-struct_rows n.rows (each_cells ps) valid)) shape.extra cut.0 children in
    let made : ChunkData × Rest = (p, c.0.1) in
    subst (λ (y : ChunkData × Rest). TookPiece ctx (n ∷ rest.nodes) rest.buffers y.0 y.1) (ok_is made x d.1)
    (node_took ctx n encodings.Struct p rest mid c.0.1 (own_buffers p) (buffers_below ps) (heads_below ctx ps) (refused_below ctx ps) at same flags.split flags.kept below)

pub extension_takes : (ctx : List EncodingId) (t : Ty) (read : Rest → Result (ChunkData × Rest) Fault) (k : ℕ) (n : Head) (rest : Rest) (x : ChunkData × Rest) → Takes ctx read → At ctx n encodings.Extension → Begun n rest → extension_at t read k n rest ≡ Ok x → TookPiece ctx (n ∷ rest.nodes) rest.buffers x.0 x.1
unfolding extension_at
extension_takes ctx t read k n rest x takes at begun e =
    let a = unless_ok k (is_shaped 0 1 n) (read rest >>= λ storage. unless_bad k (length (cells storage.0) == n.rows) (Ok (extension_piece t storage.0, storage.1))) x e in
    let b = bind_ok (read rest) (λ storage. unless_bad k (length (cells storage.0) == n.rows) (Ok (extension_piece t storage.0, storage.1))) x a.1 in
    let c = unless_ok k (length (cells b.0.0) == n.rows) (Ok (extension_piece t b.0.0, b.0.1)) x b.2 in
    let shape = shape_of 0 1 n a.0 in
    let below = takes rest b.0 (begun_fine n rest begun shape.count) b.1 in
    let p : ChunkData = extension_piece t b.0.0 in
    let same : n ≡ head_of ctx p = head_is n (head_of ctx p) (sym at.place) (sym (eqb-true _ _ c.0)) shape.extra (is_nil n.lengths shape.count) shape.below in
    let made : ChunkData × Rest = (p, b.0.1) in
    subst (λ (y : ChunkData × Rest). TookPiece ctx (n ∷ rest.nodes) rest.buffers y.0 y.1) (ok_is made x c.1)
    (node_took ctx n encodings.Extension p rest rest b.0.1 [] (buffers b.0.0) (heads ctx b.0.0) (refused ctx b.0.0) at same refl refl below)
