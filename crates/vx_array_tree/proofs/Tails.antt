-- Where the tree stands in a segment.
use Rattle.std.proofs.Common.{◌≡◌, ℕ, ◌+◌, ◌-◌, ◌^◌, ◌<◌, ◌≤◌, Bool, List, ◌++◌, length, take, drop, Option, Some, None, refl, sym, ap, subst, ◌∙◌, append_assoc, arith}
use Rattle.std.proofs.lemmas.List.{take_at, take_all, drop_at, length-append}
use Rattle.std.proofs.lemmas.Nat.{from_le_bytes-to_le_bytes_8}
use Rattle.std.specs.Int.{w64, from_le_bytes}
use Rattle.vx_model.specs.declared.encoding.EncodingId.{EncodingId}
use Rattle.vx_model.specs.CellData.{u64_bytes}
use Rattle.vx_model.specs.ChunkData.{ChunkData}
use Rattle.vx_segment_writer.specs.Segment.{laid_out, buffers, tree_bytes, segment_bytes, refused, bytes_unless, encode}
use Rattle.vx_array_tree.specs.Written.{IsEncoded}

-- the last eight bytes are the tree's length, and it stands before them
pub record Tail (tree bytes : List ℕ) : Type 0 where
  pub long : length tree + 8 ≤ length bytes
  pub number : from_le_bytes w64 (drop (length bytes - 8) bytes) ≡ length tree
  pub tree_is : drop ((length bytes - 8) - length tree) (take (length bytes - 8) bytes) ≡ tree

tail_of : (start tree : List ℕ) → length tree < 2 ^ 64 → Tail tree (start ++ (tree ++ u64_bytes (length tree)))
tail_of start tree lt =
    let last : List ℕ = u64_bytes (length tree) in
    let eight : length last ≡ 8 = refl in
    let both : length (start ++ tree) ≡ length start + length tree = length-append start tree in
    let total : length ((start ++ tree) ++ last) ≡ length (start ++ tree) + 8 = length-append (start ++ tree) last ∙ ap (λ k. length (start ++ tree) + k) eight in
    let before : length ((start ++ tree) ++ last) - 8 ≡ length (start ++ tree) = omega (arith, total) in
    let left : length (start ++ tree) - length tree ≡ length start = omega (arith, both) in
    subst (Tail tree) (append_assoc start tree last) (record {
      long = omega (arith, total, both);
      number = ap (λ k. from_le_bytes w64 (drop k ((start ++ tree) ++ last))) before
          ∙ ap (from_le_bytes w64) (drop_at (start ++ tree) last (length (start ++ tree)) refl)
          ∙ from_le_bytes-to_le_bytes_8 (length tree) lt;
      tree_is = ap (λ k. drop (k - length tree) (take k ((start ++ tree) ++ last))) before
          ∙ ap (drop (length (start ++ tree) - length tree)) (take_at (start ++ tree) last (length (start ++ tree)) refl)
          ∙ drop_at start tree (length (start ++ tree) - length tree) (sym left);
    })

whole : (first : Option EncodingId) (text bytes : List ℕ) → bytes_unless first text ≡ Some bytes → text ≡ bytes
whole None text bytes e = cc
whole (Some id) text bytes e = absurd cc

pub tail : (ctx : List EncodingId) (padded : Bool) (p : ChunkData) (bytes : List ℕ) → length bytes < 2 ^ 64 → encode ctx padded p ≡ Some bytes → Tail (tree_bytes ctx padded p) bytes
tail ctx padded p bytes short e =
    let start : List ℕ = laid_out padded 0 (buffers p) in
    let tree : List ℕ = tree_bytes ctx padded p in
    let is : start ++ (tree ++ u64_bytes (length tree)) ≡ bytes = whole (refused ctx p) (segment_bytes ctx padded p) bytes e in
    let sum : length (start ++ (tree ++ u64_bytes (length tree))) ≡ length start + (length tree + length (u64_bytes (length tree))) =
    length-append start (tree ++ u64_bytes (length tree)) ∙ ap (λ k. length start + k) (length-append tree (u64_bytes (length tree))) in
    subst (Tail tree) is (tail_of start tree (omega (arith, short, sum, ap (λ (x : List ℕ). length x) is)))

-- ---- as it is cut off

pub within : (bytes front last : List ℕ) (n : ℕ) → IsEncoded bytes → length bytes < 2 ^ 64 → last ≡ drop (length bytes - 8) bytes → length front + 8 ≡ length bytes → n ≡ from_le_bytes w64 last
    → n ≤ length front
within bytes front last n w short is long number =
    let t : Tail (tree_bytes w.encodings w.padded w.chunk) bytes = tail w.encodings w.padded w.chunk bytes short w.encoded in
    let e : n ≡ length (tree_bytes w.encodings w.padded w.chunk) = number ∙ ap (from_le_bytes w64) is ∙ t.number in
    omega (arith, t.long, long, e)

pub cut : (bytes front last : List ℕ) (n : ℕ) → length bytes < 2 ^ 64 → front ≡ take (length bytes - 8) bytes → last ≡ drop (length bytes - 8) bytes → length front + 8 ≡ length bytes
    → n ≡ from_le_bytes w64 last → (ctx : List EncodingId) (padded : Bool) (p : ChunkData) → encode ctx padded p ≡ Some bytes
    → take (length front - (length front - n)) (drop (length front - n) front) ≡ tree_bytes ctx padded p
cut bytes front last n short before is long number ctx padded p e =
    let tree : List ℕ = tree_bytes ctx padded p in
    let t : Tail tree bytes = tail ctx padded p bytes short e in
    let m : n ≡ length tree = number ∙ ap (from_le_bytes w64) is ∙ t.number in
    let l : length front ≡ length bytes - 8 = omega (arith, long) in
    let rest : drop (length front - n) front ≡ tree = ap (λ (z : List ℕ). drop (length front - n) z) before ∙ ap (λ (z : ℕ). drop (z - n) (take (length bytes - 8) bytes)) l
    ∙ ap (λ (z : ℕ). drop ((length bytes - 8) - z) (take (length bytes - 8) bytes)) m ∙ t.tree_is in
    ap (take (length front - (length front - n))) rest ∙ take_all (length front - (length front - n)) tree (omega (arith, t.long, long, m))
