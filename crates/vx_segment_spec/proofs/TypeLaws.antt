-- A chunk that is read, of any type, is spelled by the nodes and the buffers that it took.
use Rattle.std.proofs.Common.{◌≡◌, ℕ, zero, suc, Bool, true, false, cond, List, [], ◌∷◌, ◌++◌, length, Option, Some, None, Result, Ok, Err, refl, sym, ap, subst, ◌∙◌}
use Rattle.std.specs.Prelude.{◌||◌, slice_get}
use Rattle.std.proofs.lemmas.Bool.{eq-eqb}
use Rattle.vx_model.specs.declared.encoding.EncodingId.{EncodingId}
use Rattle.vx_model.specs.declared.encoding.EncodingId.TheVariants as encodings
use Rattle.vx_model.specs.Numbers.{encoding_number, encoding_eq}
use Rattle.vx_model.specs.Distinct.{is_listed, repeat_after, first_repeat}
use Rattle.vx_model.specs.Places.{place_of}
use Rattle.vx_model.specs.Ty.{Ty, Tys, boolean, primitive, utf8, binary, list, struct, extension, no_fields, field}
use Rattle.vx_model.specs.ChunkData.{ChunkData, pieces_of}
use Rattle.vx_segment_writer.specs.Head.{Head}
use Rattle.vx_segment_writer.specs.Segment.{buffers, buffers_below, heads, heads_below, refused, refused_below}
use Rattle.vx_byte_reader.specs.Places.{◌>>=◌}
use Rattle.vx_segment_spec.specs.Reading.{Fault}
use Rattle.vx_segment_spec.specs.Pieces.{Rest, Frame, number, node_of, list_own, struct_own, extension_own, part_of, part_at, whole_of, whole_at, no_pieces_at, piece_then, count_fields, own_of, columns_at, piece_at}
use Rattle.vx_byte_reader.proofs.PlaceLaws.{bind_ok, ok_is}
use Rattle.vx_segment_spec.proofs.Contexts.{listed_push}
use Rattle.vx_segment_spec.proofs.PieceTypes.{just}
use Rattle.vx_segment_spec.proofs.PieceLaws.{Fine, Begun, Took, TookPiece, TookAll, took_then, took_nothing, At, plain_takes, constant_takes}
use Rattle.vx_segment_spec.proofs.EncodingLaws.{Takes, TakesAll, Indexed, FirstNode, node_is, begun_at, took_at, dict_takes, chunked_takes, list_takes, struct_takes, extension_takes}

-- ---- the encodings of one kind of type

-- the reader of a node takes it and what follows it
abbrev TakesNode : Frame → Ty → Type 0
TakesNode frame t = (k : ℕ) (n : Head) (id : EncodingId) (rest : Rest) (x : ChunkData × Rest) → At frame.ids n id → Begun n rest → own_of frame t k n id rest ≡ Ok x → TookPiece frame.ids (n ∷ rest.nodes) rest.buffers x.0 x.1

list_own_takes : (frame : Frame) (t : Ty) (m : Bool) → Takes frame.ids (piece_at frame t) → TakesNode frame (list t m)
list_own_takes frame t m takes k n encodings.List rest x at begun e = list_takes frame.ids (list t m) (piece_at frame t) k n rest x takes at begun e
list_own_takes frame t m takes k n id rest x at begun e = absurd cc

extension_own_takes : (frame : Frame) (tag : List ℕ) (t : Ty) → Takes frame.ids (piece_at frame t) → TakesNode frame (extension tag t)
extension_own_takes frame tag t takes k n encodings.Extension rest x at begun e = extension_takes frame.ids (extension tag t) (piece_at frame t) k n rest x takes at begun e
extension_own_takes frame tag t takes k n id rest x at begun e = absurd cc

columns_count : (frame : Frame) (fs : Tys) (rest : Rest) (x : List ChunkData × Rest) → columns_at frame fs rest ≡ Ok x → length x.0 ≡ count_fields fs
unfolding no_pieces_at piece_then
columns_count frame no_fields rest x e = subst (λ (y : List ChunkData × Rest). length y.0 ≡ 0) (ok_is ([], rest) x e) refl
columns_count frame (field name t fs) rest x e =
    let a = bind_ok (piece_at frame t rest) (λ first. columns_at frame fs first.1 >>= λ more. Ok (first.0 ∷ more.0, more.1)) x e in
    let b = bind_ok (columns_at frame fs a.0.1) (λ more. Ok (a.0.0 ∷ more.0, more.1)) x a.2 in
    let made : List ChunkData × Rest = (a.0.0 ∷ b.0.0, b.0.1) in
    subst (λ (y : List ChunkData × Rest). length y.0 ≡ suc (count_fields fs)) (ok_is made x b.2) (ap suc (columns_count frame fs a.0.1 b.0 b.1))

struct_own_takes : (frame : Frame) (fs : Tys) (m : Bool) → TakesAll frame.ids (columns_at frame fs) → TakesNode frame (struct fs m)
struct_own_takes frame fs m takes k n encodings.Struct rest x at begun e = struct_takes frame.ids (struct fs m) (count_fields fs) (columns_at frame fs) k n rest x takes (λ s y read. columns_count frame fs s y read) at begun e
struct_own_takes frame fs m takes k n id rest x at begun e = absurd cc

-- ---- parts, and whole chunks

part_of_takes : (frame : Frame) (t : Ty) (k : ℕ) (n : Head) (id : Option EncodingId) (rest : Rest) (x : ChunkData × Rest) → Indexed frame.ids → TakesNode frame t → ((e : EncodingId) → id ≡ Some e → At frame.ids n e) → Begun n rest
    → part_of frame t (own_of frame t) k n id rest ≡ Ok x → TookPiece frame.ids (n ∷ rest.nodes) rest.buffers x.0 x.1
part_of_takes frame t k n (Some encodings.Plain) rest x indexed own at begun e = plain_takes frame.ids t k n rest x (at encodings.Plain refl) begun e
part_of_takes frame t k n (Some encodings.Constant) rest x indexed own at begun e = constant_takes frame.ids t k n rest x (at encodings.Constant refl) begun e
part_of_takes frame t k n (Some encodings.Dict) rest x indexed own at begun e = dict_takes frame t k n rest x indexed (at encodings.Dict refl) begun e
part_of_takes frame t k n (Some encodings.Chunked) rest x indexed own at begun e = absurd cc
part_of_takes frame t k n (Some encodings.List) rest x indexed own at begun e = own k n encodings.List rest x (at encodings.List refl) begun e
part_of_takes frame t k n (Some encodings.Struct) rest x indexed own at begun e = own k n encodings.Struct rest x (at encodings.Struct refl) begun e
part_of_takes frame t k n (Some encodings.Extension) rest x indexed own at begun e = own k n encodings.Extension rest x (at encodings.Extension refl) begun e
part_of_takes frame t k n None rest x indexed own at begun e = absurd cc

part_takes : (frame : Frame) (t : Ty) → Indexed frame.ids → TakesNode frame t → Takes frame.ids (part_at frame t (own_of frame t))
unfolding part_at
part_takes frame t indexed own rest x fine e =
    let a = bind_ok (node_of frame rest) (λ node. part_of frame t (own_of frame t) (number frame rest) node.0 (slice_get frame.ids node.0.index) node.1) x e in
    let first = node_is frame rest a.0 a.1 in
    took_at frame.ids rest a.0.0 a.0.1 x.0 x.1 first (part_of_takes frame t (number frame rest) a.0.0 (slice_get frame.ids a.0.0.index) a.0.1 x indexed own (λ id is. indexed a.0.0 id is) (begun_at rest a.0.0 a.0.1 fine first) a.2)

whole_of_takes : (frame : Frame) (t : Ty) (k : ℕ) (n : Head) (id : Option EncodingId) (rest : Rest) (x : ChunkData × Rest) → Indexed frame.ids → TakesNode frame t → ((e : EncodingId) → id ≡ Some e → At frame.ids n e) → Begun n rest
    → whole_of frame t (own_of frame t) k n id rest ≡ Ok x → TookPiece frame.ids (n ∷ rest.nodes) rest.buffers x.0 x.1
whole_of_takes frame t k n (Some encodings.Chunked) rest x indexed own at begun e = chunked_takes frame.ids t (part_at frame t (own_of frame t)) k n rest x (part_takes frame t indexed own) (at encodings.Chunked refl) begun e
whole_of_takes frame t k n id rest x indexed own at begun e = part_of_takes frame t k n id rest x indexed own at begun e

whole_takes : (frame : Frame) (t : Ty) → Indexed frame.ids → TakesNode frame t → Takes frame.ids (piece_at frame t)
unfolding whole_at
whole_takes frame t indexed own rest x fine e =
    let a = bind_ok (node_of frame rest) (λ node. whole_of frame t (own_of frame t) (number frame rest) node.0 (slice_get frame.ids node.0.index) node.1) x e in
    let first = node_is frame rest a.0 a.1 in
    took_at frame.ids rest a.0.0 a.0.1 x.0 x.1 first (whole_of_takes frame t (number frame rest) a.0.0 (slice_get frame.ids a.0.0.index) a.0.1 x indexed own (λ id is. indexed a.0.0 id is) (begun_at rest a.0.0 a.0.1 fine first) a.2)

-- ---- every type

no_columns_take : (ctx : List EncodingId) → TakesAll ctx no_pieces_at
unfolding no_pieces_at
no_columns_take ctx rest x fine e =
    let made : List ChunkData × Rest = ([], rest) in
    subst (λ (y : List ChunkData × Rest). TookAll ctx rest.nodes rest.buffers (pieces_of y.0) y.1) (ok_is made x e) (took_nothing rest fine)

column_takes : (ctx : List EncodingId) (read : Rest → Result (ChunkData × Rest) Fault) (others : Rest → Result (List ChunkData × Rest) Fault) → Takes ctx read → TakesAll ctx others → TakesAll ctx (piece_then read others)
unfolding piece_then
column_takes ctx read others takes takes_others rest x fine e =
    let a = bind_ok (read rest) (λ first. others first.1 >>= λ more. Ok (first.0 ∷ more.0, more.1)) x e in
    let b = bind_ok (others a.0.1) (λ more. Ok (a.0.0 ∷ more.0, more.1)) x a.2 in
    let one = takes rest a.0 fine a.1 in
    let two = takes_others a.0.1 b.0 one.fine b.1 in
    let made : List ChunkData × Rest = (a.0.0 ∷ b.0.0, b.0.1) in
    subst (λ (y : List ChunkData × Rest). TookAll ctx rest.nodes rest.buffers (pieces_of y.0) y.1) (ok_is made x b.2)
    (took_then rest.nodes rest.buffers (heads ctx a.0.0) (heads_below ctx (pieces_of b.0.0)) (buffers a.0.0) (buffers_below (pieces_of b.0.0)) (refused ctx a.0.0) (refused_below ctx (pieces_of b.0.0)) a.0.1 b.0.1 one two)

mutual
  own_takes : (frame : Frame) (t : Ty) → Indexed frame.ids → TakesNode frame t
  own_takes frame (boolean m) indexed k n id rest x at begun e = absurd cc
  own_takes frame (primitive p m) indexed k n id rest x at begun e = absurd cc
  own_takes frame (utf8 m) indexed k n id rest x at begun e = absurd cc
  own_takes frame (binary m) indexed k n id rest x at begun e = absurd cc
  own_takes frame (list t m) indexed k n id rest x at begun e = list_own_takes frame t m (whole_takes frame t indexed (own_takes frame t indexed)) k n id rest x at begun e
  own_takes frame (struct fs m) indexed k n id rest x at begun e = struct_own_takes frame fs m (columns_take frame fs indexed) k n id rest x at begun e
  own_takes frame (extension tag t) indexed k n id rest x at begun e = extension_own_takes frame tag t (whole_takes frame t indexed (own_takes frame t indexed)) k n id rest x at begun e

  columns_take : (frame : Frame) (fs : Tys) → Indexed frame.ids → TakesAll frame.ids (columns_at frame fs)
  columns_take frame no_fields indexed = no_columns_take frame.ids
  columns_take frame (field name t fs) indexed = column_takes frame.ids (piece_at frame t) (columns_at frame fs) (whole_takes frame t indexed (own_takes frame t indexed)) (columns_take frame fs indexed)

pub piece_takes : (frame : Frame) (t : Ty) → Indexed frame.ids → Takes frame.ids (piece_at frame t)
piece_takes frame t indexed = whole_takes frame t indexed (own_takes frame t indexed)

-- ---- a context lists nothing twice, so an index stands for one encoding

record Place (es : List EncodingId) (before : List EncodingId) (e : EncodingId) (i : ℕ) : Type 0 where
  new : is_listed e before ≡ false
  listed : is_listed e es ≡ true
  place : place_of e es ≡ i

either : (a b : Bool) → (a || b) ≡ false → (a ≡ false) × (b ≡ false)
either true b e = absurd cc
either false b e = (refl, e)

not_repeated : (b : Bool) (e : EncodingId) (o : Option EncodingId) → cond b (Some e) o ≡ None → (b ≡ false) × (o ≡ None)
not_repeated true e o h = absurd cc
not_repeated false e o h = (refl, h)

some_is : {A : Type 0} (x y : A) → just x ≡ just y → x ≡ y
some_is x y e = cc

place_at : (before es : List EncodingId) (i : ℕ) (e : EncodingId) → repeat_after before es ≡ None → slice_get es i ≡ Some e → Place es before e i
place_at before [] i e distinct got = absurd cc
place_at before (d ∷ ds) zero e distinct got =
    let here = not_repeated (is_listed d before) d (repeat_after (before ++ d ∷ []) ds) distinct in
    let same : encoding_eq d d ≡ true = eq-eqb (encoding_number d) (encoding_number d) refl in
    subst (λ (f : EncodingId). Place (d ∷ ds) before f zero) (some_is d e got) (record { new = here.0; listed = rw same refl; place = rw same refl })
place_at before (d ∷ ds) (suc i) e distinct got =
    let here = not_repeated (is_listed d before) d (repeat_after (before ++ d ∷ []) ds) distinct in
    let further = place_at (before ++ d ∷ []) ds i e here.1 got in
    let apart = either (is_listed e before) (encoding_eq d e) (sym (listed_push e d before) ∙ further.new) in
    record { new = apart.0; listed = rw (apart.1, further.listed) refl; place = rw (apart.1, further.place) refl }

pub indexed_by : (ctx : List EncodingId) → first_repeat ctx ≡ None → Indexed ctx
indexed_by ctx distinct n e got = let known = place_at [] ctx n.index e distinct got in record { listed = known.listed; place = known.place }
