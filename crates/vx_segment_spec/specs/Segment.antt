-- Reading a segment: its tree, its buffers, and the chunk that they are.
use Rattle.std.specs.Prelude.{ℕ, zero, suc, ◌+◌, ◌-◌, Bool, List, [], ◌∷◌, ◌++◌, length, take, drop, Option, Some, None, Result, Ok, Err, nat_lt, ◌==◌, if◌then◌else◌}
use Rattle.std.specs.Int.{w64, from_le_bytes}
use Rattle.vx_model.specs.declared.encoding.EncodingId.{EncodingId}
use Rattle.vx_model.specs.Ty.{Ty}
use Rattle.vx_model.specs.ChunkData.{ChunkData}
use Rattle.vx_segment_writer.specs.Head.{Head}
use Rattle.vx_segment_writer.specs.Segment.{padding_at}
use Rattle.vx_byte_reader.specs.Places.{◌>>=◌}
use Rattle.vx_segment_spec.specs.Reading.{Fault, bad_grammar, RawTree, tree_at}
use Rattle.vx_segment_spec.specs.Pieces.{piece_at}

-- ---- the buffers, from the place `at` on

-- the place of the first byte that isn't 0
abbrev pub set_byte : ℕ → List ℕ → Option ℕ
set_byte at [] = None
set_byte at (zero ∷ bytes) = set_byte (suc at) bytes
set_byte at (suc b ∷ bytes) = Some at

abbrev pub unless_set : {A : Type 0} → Option ℕ → Result A Fault → Result A Fault
unless_set None read = read
unless_set (Some place) read = Err (bad_grammar place)

-- A buffer of n bytes behind so many bytes of padding: first the padding is looked at, as far as there are bytes.
abbrev pub buffer_at : ℕ → ℕ → ℕ → List ℕ → Result (List ℕ × List ℕ) Fault
buffer_at padding at n bytes =
    unless_set (set_byte at (take padding bytes)) (if nat_lt (length bytes) (padding + n) then Err (bad_grammar (at + padding)) else Ok (take n (drop padding bytes), drop (padding + n) bytes))

-- buffers of these lengths, and nothing behind the last
unfoldable pub buffers_at : Bool → ℕ → List ℕ → List ℕ → Result (List (List ℕ)) Fault
buffers_at padded at [] bytes = if length bytes == 0 then Ok [] else Err (bad_grammar at)
buffers_at padded at (n ∷ ns) bytes = do
  first ← buffer_at (length (padding_at padded at)) at n bytes
  others ← buffers_at padded (at + (length (padding_at padded at) + n)) ns first.1
  Ok (first.0 ∷ others)

-- ---- a segment

-- the bytes before the tree, and the tree, which has the last n bytes
abbrev pub halves_at : ℕ → List ℕ → Result (List ℕ × List ℕ) Fault
halves_at n bytes = if nat_lt (length bytes) n then Err (bad_grammar (length bytes)) else Ok (take (length bytes - n) bytes, drop (length bytes - n) bytes)

-- the last eight bytes are the tree's length
abbrev pub halves_of : List ℕ → Result (List ℕ × List ℕ) Fault
halves_of bytes =
    if nat_lt (length bytes) 8 then Err (bad_grammar 0) else halves_at (from_le_bytes w64 (drop (length bytes - 8) bytes)) (take (length bytes - 8) bytes)

-- the lengths of all buffers, a node's own before its children's
abbrev pub lengths_of : List Head → List ℕ
lengths_of [] = []
lengths_of (n ∷ ns) = n.lengths ++ lengths_of ns

-- what is read of a segment without its type
pub record Raw : Type 0 where
  pub tree : RawTree
  pub buffers : List (List ℕ)

unfoldable pub raw_of : List ℕ → Result Raw Fault
raw_of bytes = do
  halves ← halves_of bytes
  tree ← tree_at (length bytes - 8) halves.1
  buffers ← buffers_at tree.padded 0 (lengths_of tree.nodes) halves.0
  Ok (record { tree = tree; buffers = buffers })

-- ---- the chunk of a type

unfoldable pub piece_in : List EncodingId → Ty → Raw → Result ChunkData Fault
piece_in ctx t raw = do
  read ← piece_at (record { ids = ctx; total = length raw.tree.nodes }) t (record { nodes = raw.tree.nodes; buffers = raw.buffers })
  Ok read.0

-- the chunk of the type that a segment is, or the first fault
abbrev pub decode : List EncodingId → Ty → List ℕ → Result ChunkData Fault
decode ctx t bytes = raw_of bytes >>= piece_in ctx t

-- the lengths of all buffers of a segment
abbrev pub segment_lengths : List ℕ → Result (List ℕ) Fault
segment_lengths bytes = do
  raw ← raw_of bytes
  Ok (lengths_of raw.tree.nodes)

-- of a tree alone, whose places count from its first byte
abbrev pub tree_lengths : List ℕ → Result (List ℕ) Fault
tree_lengths bytes = do
  tree ← tree_at (length bytes) bytes
  Ok (lengths_of tree.nodes)
