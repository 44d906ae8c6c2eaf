-- A chunk that is read is spelled so, and what is spelled so is read.
use Rattle.std.proofs.Common.{◌≡◌, ℕ, ◌+◌, ◌-◌, ◌^◌, ◌<◌, Bool, true, false, cond, eqb, List, [], ◌∷◌, ◌++◌, length, Option, Some, None, Result, Ok, Err, refl, sym, ap, subst, ◌∙◌, arith}
use Rattle.std.specs.List.{AllByRecursion}
use Rattle.std.proofs.lemmas.List.{append-nil, length-append}
use Rattle.vx_model.specs.declared.encoding.EncodingId.{EncodingId}
use Rattle.vx_model.specs.Words.{joined_by}
use Rattle.vx_model.specs.Distinct.{first_repeat}
use Rattle.vx_model.specs.Ty.{Ty}
use Rattle.vx_model.specs.CellData.{bit, u64_bytes}
use Rattle.vx_model.specs.ChunkData.{ChunkData, piece_type, cells}
use Rattle.vx_layout_spec.specs.Codec.{Lawful}
use Rattle.vx_layout_spec.specs.Real.{Whole}
use Rattle.vx_segment_writer.specs.Head.{Head, head_spelling}
use Rattle.vx_segment_writer.specs.Segment.{laid_out, buffers, heads, tree_bytes, segment_bytes, refused, bytes_unless, encode}
use Rattle.vx_byte_reader.specs.Places.{◌>>=◌}
use Rattle.vx_segment_spec.specs.Reading.{Fault, RawTree, tree_at}
use Rattle.vx_segment_spec.specs.Spelled.{are_trees, tree_spelling, IsHead}
use Rattle.vx_segment_spec.specs.Pieces.{Rest, Frame, piece_at}
use Rattle.vx_segment_spec.specs.Segment.{buffers_at, halves_of, lengths_of, Raw, raw_of, piece_in, decode}
use Rattle.vx_segment_spec.specs.Codec.{IsSegment, cells_read, segment_codec}
use Rattle.vx_byte_reader.proofs.FieldLaws.{IsBytes}
use Rattle.vx_byte_reader.proofs.PlaceLaws.{bind_ok, ok_is}
use Rattle.vx_segment_spec.proofs.TreeLaws.{enough, tree_takes, tree_again}
use Rattle.vx_segment_spec.proofs.BufferLaws.{lengths, buffers_take, buffers_again, halves_take, halves_again}
use Rattle.vx_segment_spec.proofs.Contexts.{place_fits}
use Rattle.vx_segment_spec.proofs.PieceTypes.{piece_typed}
use Rattle.vx_segment_spec.proofs.PieceLaws.{Fine, TookPiece}
use Rattle.vx_segment_spec.proofs.TypeLaws.{piece_takes, indexed_by}
use Rattle.vx_segment_spec.proofs.AgainLaws.{rest_of, Ready}
use Rattle.vx_segment_spec.proofs.EveryAgain.{again_of}
use Rattle.vx_segment_spec.proofs.HeadLaws.{heads_tree, one_tree, nothing_left, lengths_told, heads_fit, laid_short}

-- what is known of a segment that was read
record IsRaw (bytes : List ℕ) (r : Raw) : Type 0 where
  parts : bytes ≡ laid_out r.tree.padded 0 r.buffers ++ (tree_spelling r.tree ++ u64_bytes (length (tree_spelling r.tree)))
  trees : are_trees 1 r.tree.nodes ≡ true
  long : lengths r.buffers ≡ lengths_of r.tree.nodes
  are_bytes : AllByRecursion IsBytes r.buffers

raw_takes : (bytes : List ℕ) (r : Raw) → IsBytes bytes → raw_of bytes ≡ Ok r → IsRaw bytes r
unfolding raw_of
raw_takes bytes r fits e =
    let a = bind_ok (halves_of bytes) (λ halves. tree_at (length bytes - 8) halves.1 >>= λ tree. buffers_at tree.padded 0 (lengths_of tree.nodes) halves.0 >>= λ buffers. Ok (record { tree = tree; buffers = buffers })) r e in
    let b = bind_ok (tree_at (length bytes - 8) a.0.1) (λ tree. buffers_at tree.padded 0 (lengths_of tree.nodes) a.0.0 >>= λ buffers. Ok (record { tree = tree; buffers = buffers })) r a.2 in
    let c = bind_ok (buffers_at b.0.padded 0 (lengths_of b.0.nodes) a.0.0) (λ buffers. Ok (record { tree = b.0; buffers = buffers })) r b.2 in
    let halves = halves_take bytes a.0 fits a.1 in
    let tree = tree_takes (length bytes - 8) a.0.1 b.0 halves.1.1 b.1 in
    let buffers = buffers_take b.0.padded 0 (lengths_of b.0.nodes) a.0.0 c.0 halves.1.0 c.1 in
    let made : Raw = record { tree = b.0; buffers = c.0 } in
    let whole : bytes ≡ laid_out b.0.padded 0 c.0 ++ (tree_spelling b.0 ++ u64_bytes (length (tree_spelling b.0))) = halves.0 ∙ ap (λ (x : List ℕ). x ++ (a.0.1 ++ u64_bytes (length a.0.1))) buffers.laid ∙ ap (λ (x : List ℕ). laid_out b.0.padded 0 c.0 ++ (x ++ u64_bytes (length x))) tree.0 in
    subst (IsRaw bytes) (ok_is made r c.2) (record { parts = whole; trees = tree.1; long = buffers.long; are_bytes = buffers.are_bytes })

no_buffers : (bs : List (List ℕ)) → lengths bs ≡ [] → bs ≡ []
no_buffers [] e = refl
no_buffers (b ∷ bs) e = absurd cc

-- What is read is spelled so, and has the type.
pub decode_takes : (ctx : List EncodingId) (t : Ty) (bytes : List ℕ) (p : ChunkData) → first_repeat ctx ≡ None → IsBytes bytes → decode ctx t bytes ≡ Ok p → IsSegment ctx p bytes × (piece_type p ≡ t)
unfolding piece_in
decode_takes ctx t bytes p distinct is_bytes e =
    let a = bind_ok (raw_of bytes) (piece_in ctx t) p e in
    let r : Raw = a.0 in
    let frame : Frame = record { ids = ctx; total = length r.tree.nodes } in
    let rest : Rest = record { nodes = r.tree.nodes; buffers = r.buffers } in
    let b = bind_ok (piece_at frame t rest) (λ read. Ok read.0) p a.2 in
    let raw = raw_takes bytes r is_bytes a.1 in
    let took = piece_takes frame t (indexed_by ctx distinct) rest b.0 (record { bytes = raw.are_bytes; long = raw.long }) b.1 in
    let is : b.0.0 ≡ p = ok_is b.0.0 p b.2 in
    let q : ChunkData = b.0.0 in
    let after : Rest = b.0.1 in
    let ended : are_trees 0 after.nodes ≡ true = sym (heads_tree ctx q 0 after.nodes) ∙ ap (are_trees 1) (sym took.nodes) ∙ raw.trees in
    let no_nodes : after.nodes ≡ [] = nothing_left after.nodes ended in
    let none : after.buffers ≡ [] = no_buffers after.buffers (took.fine.long ∙ ap lengths_of no_nodes) in
    let nodes : r.tree.nodes ≡ heads ctx q = took.nodes ∙ ap (λ (x : List Head). heads ctx q ++ x) no_nodes ∙ append-nil (heads ctx q) in
    let texts : r.buffers ≡ buffers q = took.buffers_are ∙ ap (λ (x : List (List ℕ)). buffers q ++ x) none ∙ append-nil (buffers q) in
    let padded : Bool = r.tree.padded in
    let tree : tree_spelling r.tree ≡ tree_bytes ctx padded q = ap (λ (x : List Head). bit padded ∷ joined_by head_spelling x) nodes in
    let whole : bytes ≡ segment_bytes ctx padded q = raw.parts ∙ ap (λ (x : List (List ℕ)). laid_out padded 0 x ++ (tree_spelling r.tree ++ u64_bytes (length (tree_spelling r.tree)))) texts ∙ ap (λ (x : List ℕ). laid_out padded 0 (buffers q) ++ (x ++ u64_bytes (length x))) tree in
    let encoded : encode ctx padded q ≡ Some bytes = ap (λ (o : Option EncodingId). bytes_unless o (segment_bytes ctx padded q)) took.listed ∙ ap (λ (x : List ℕ). Some x) (sym whole) in
    subst (λ (v : ChunkData). IsSegment ctx v bytes × (piece_type v ≡ t)) is ((padded, encoded), piece_typed frame t rest b.0 b.1)

-- where a chunk is encoded, no encoding is refused
was_encoded : (r : Option EncodingId) (text bytes : List ℕ) → bytes_unless r text ≡ Some bytes → (r ≡ None) × (text ≡ bytes)
was_encoded None text bytes e = (refl, cc)
was_encoded (Some id) text bytes e = absurd cc

-- What is spelled so is read.
pub decode_again : (ctx : List EncodingId) (padded : Bool) (p : ChunkData) (bytes : List ℕ) → first_repeat ctx ≡ None → Whole p → length bytes < 2 ^ 64 → encode ctx padded p ≡ Some bytes → decode ctx (piece_type p) bytes ≡ Ok p
unfolding raw_of piece_in
decode_again ctx padded p bytes distinct whole short encoded =
    let was = was_encoded (refused ctx p) (segment_bytes ctx padded p) bytes encoded in
    let start : List ℕ = laid_out padded 0 (buffers p) in
    let nodes : List Head = heads ctx p in
    let tree : RawTree = record { padded = padded; nodes = nodes } in
    let text : List ℕ = tree_spelling tree in
    let is : bytes ≡ start ++ (text ++ u64_bytes (length text)) = sym was.1 in
    let sum : length bytes ≡ length start + (length text + length (u64_bytes (length text))) = ap (λ (x : List ℕ). length x) is ∙ length-append start (text ++ u64_bytes (length text)) ∙ ap (λ (k : ℕ). length start + k) (length-append text (u64_bytes (length text))) in
    let few : length nodes < 2 ^ 64 = omega (arith, short, sum, enough nodes) in
    let fit : AllByRecursion IsHead nodes = heads_fit ctx p (λ e. place_fits e ctx distinct) whole.sound (laid_short padded 0 (buffers p) (omega (arith, short, sum))) few in
    let halves : halves_of bytes ≡ Ok (start, text) = ap halves_of is ∙ halves_again start text (omega (arith, short, sum)) in
    let read : tree_at (length bytes - 8) text ≡ Ok tree = tree_again (length bytes - 8) tree (one_tree ctx p) fit in
    let texts : buffers_at padded 0 (lengths_of nodes) start ≡ Ok (buffers p) = ap (λ (ls : List ℕ). buffers_at padded 0 ls start) (lengths_told ctx p) ∙ buffers_again padded 0 (buffers p) in
    let frame : Frame = record { ids = ctx; total = length nodes } in
    let again : piece_at frame (piece_type p) (rest_of nodes (buffers p)) ≡ Ok (p, rest_of [] []) = ap (λ (ns : List Head). piece_at frame (piece_type p) (rest_of ns (buffers p))) (sym (append-nil nodes)) ∙ ap (λ (bs : List (List ℕ)). piece_at frame (piece_type p) (rest_of (nodes ++ []) bs)) (sym (append-nil (buffers p))) ∙ (again_of frame p (record { sound = whole.sound; real = whole.real; listed = was.0 })).whole [] [] in
    rw (halves, read, texts, again) refl

-- the codec of segments keeps the law of codecs at each context without repeats
pub is_lawful : (ctx : List EncodingId) → first_repeat ctx ≡ None → Lawful segment_codec ctx
is_lawful ctx distinct = record {
  again = λ padding p b whole encoded short. ap cells_read (decode_again ctx padding p b distinct whole short encoded);
  encodes = λ padding p none. (segment_bytes ctx padding p, ap (λ (o : Option EncodingId). bytes_unless o (segment_bytes ctx padding p)) none);
  refuses = λ padding p id some. ap (λ (o : Option EncodingId). bytes_unless o (segment_bytes ctx padding p)) some;
}
