-- The bytes of a segment: the buffers, the tree of encodings, and the tree's length.
use Rattle.std.specs.Prelude.{ℕ, suc, ◌+◌, ◌-◌, ◌%◌, Bool, if◌then◌else◌, List, [], ◌∷◌, ◌++◌, length, map, replicate, Option, Some, None}
use Rattle.vx_model.specs.declared.encoding.EncodingId.{EncodingId}
use Rattle.vx_model.specs.declared.encoding.EncodingId.TheVariants as encodings
use Rattle.vx_model.specs.Words.{joined_by}
use Rattle.vx_model.specs.Numbers.{ptype_number}
use Rattle.vx_model.specs.Distinct.{is_listed}
use Rattle.vx_model.specs.Places.{place_of}
use Rattle.vx_model.specs.Ty.{Ty, primitive, nullable}
use Rattle.vx_model.specs.CellData.{bit, u64_bytes, spelling}
use Rattle.vx_model.specs.ChunkData.{ChunkData, ChunkList, plain_piece, constant_piece, dict_piece, chunked_piece, list_piece, struct_piece, extension_piece, no_pieces, part, piece_type, cells}
use Rattle.vx_chunk.specs.Encoded.{encoding_of}
use Rattle.vx_segment_writer.specs.Head.{Head, head_spelling}

-- ---- buffers

-- a byte a row where the type is nullable
abbrev pub validity_buffer : Ty → List Bool → List (List ℕ)
validity_buffer t valid = if nullable t then map bit valid ∷ [] else []

abbrev pub own_buffers : ChunkData → List (List ℕ)
own_buffers (plain_piece t cs) = joined_by (spelling t) cs ∷ []
own_buffers (constant_piece t c n) = spelling t c ∷ []
own_buffers (dict_piece codes values) = []
own_buffers (chunked_piece t ps) = []
own_buffers (list_piece t e offsets valid) = joined_by u64_bytes offsets ∷ validity_buffer t valid
own_buffers (struct_piece t ps valid n) = validity_buffer t valid
own_buffers (extension_piece t p) = []

-- all buffers in pre-order, a node's own before its children's
abbrev mutual
  pub buffers : ChunkData → List (List ℕ)
  buffers (plain_piece t cs) = own_buffers (plain_piece t cs)
  buffers (constant_piece t c n) = own_buffers (constant_piece t c n)
  buffers (dict_piece codes values) = buffers codes ++ buffers values
  buffers (chunked_piece t ps) = buffers_below ps
  buffers (list_piece t e offsets valid) = own_buffers (list_piece t e offsets valid) ++ buffers e
  buffers (struct_piece t ps valid n) = own_buffers (struct_piece t ps valid n) ++ buffers_below ps
  buffers (extension_piece t p) = buffers p

  pub buffers_below : ChunkList → List (List ℕ)
  buffers_below no_pieces = []
  buffers_below (part p ps) = buffers p ++ buffers_below ps

-- zeros up to the next multiple of 8, which is the place itself where it is one
abbrev pub padding_at : Bool → ℕ → List ℕ
padding_at padded at = if padded then replicate ((8 - at % 8) % 8) 0 else []

-- the buffers one after the other, each behind its padding, where the first place is `at`
abbrev pub laid_out : Bool → ℕ → List (List ℕ) → List ℕ
laid_out padded at [] = []
laid_out padded at (b ∷ bs) = (padding_at padded at ++ b) ++ laid_out padded (at + length (padding_at padded at ++ b)) bs

-- ---- the tree

-- one byte more about the node: of a dictionary the number of its codes' type
abbrev pub code_number : Ty → ℕ
code_number (primitive p n) = ptype_number p
code_number t = 0

abbrev pub extra_of : ChunkData → ℕ
extra_of (dict_piece codes values) = code_number (piece_type codes)
extra_of p = 0

abbrev pub count_pieces : ChunkList → ℕ
count_pieces no_pieces = 0
count_pieces (part p ps) = suc (count_pieces ps)

-- how many children a node has
abbrev pub child_count : ChunkData → ℕ
child_count (plain_piece t cs) = 0
child_count (constant_piece t c n) = 0
child_count (dict_piece codes values) = 2
child_count (chunked_piece t ps) = count_pieces ps
child_count (list_piece t e offsets valid) = 1
child_count (struct_piece t ps valid n) = count_pieces ps
child_count (extension_piece t p) = 1

-- a chunk's own node
abbrev pub head_of : List EncodingId → ChunkData → Head
head_of ctx p =
    record { index = place_of (encoding_of p) ctx; rows = length (cells p); extra = extra_of p; lengths = map (λ b. length b) (own_buffers p); children = child_count p }

-- all nodes in pre-order
abbrev mutual
  pub heads : List EncodingId → ChunkData → List Head
  heads ctx (plain_piece t cs) = head_of ctx (plain_piece t cs) ∷ []
  heads ctx (constant_piece t c n) = head_of ctx (constant_piece t c n) ∷ []
  heads ctx (dict_piece codes values) = head_of ctx (dict_piece codes values) ∷ (heads ctx codes ++ heads ctx values)
  heads ctx (chunked_piece t ps) = head_of ctx (chunked_piece t ps) ∷ heads_below ctx ps
  heads ctx (list_piece t e offsets valid) = head_of ctx (list_piece t e offsets valid) ∷ heads ctx e
  heads ctx (struct_piece t ps valid n) = head_of ctx (struct_piece t ps valid n) ∷ heads_below ctx ps
  heads ctx (extension_piece t p) = head_of ctx (extension_piece t p) ∷ heads ctx p

  pub heads_below : List EncodingId → ChunkList → List Head
  heads_below ctx no_pieces = []
  heads_below ctx (part p ps) = heads ctx p ++ heads_below ctx ps

-- a flag that says whether the buffers are padded, and the nodes in pre-order
abbrev pub tree_bytes : List EncodingId → Bool → ChunkData → List ℕ
tree_bytes ctx padded p = bit padded ∷ joined_by head_spelling (heads ctx p)

abbrev pub segment_bytes : List EncodingId → Bool → ChunkData → List ℕ
segment_bytes ctx padded p =
    laid_out padded 0 (buffers p) ++ (tree_bytes ctx padded p ++ u64_bytes (length (tree_bytes ctx padded p)))

-- ---- which chunks a context can write

abbrev pub first_of : Option EncodingId → Option EncodingId → Option EncodingId
first_of None e = e
first_of (Some d) e = Some d

abbrev pub own_refusal : List EncodingId → EncodingId → Option EncodingId
own_refusal ctx e = if is_listed e ctx then None else Some e

-- the first encoding in pre-order that isn't in the context
abbrev mutual
  pub refused : List EncodingId → ChunkData → Option EncodingId
  refused ctx (plain_piece t cs) = own_refusal ctx encodings.Plain
  refused ctx (constant_piece t c n) = own_refusal ctx encodings.Constant
  refused ctx (dict_piece codes values) = first_of (own_refusal ctx encodings.Dict) (first_of (refused ctx codes) (refused ctx values))
  refused ctx (chunked_piece t ps) = first_of (own_refusal ctx encodings.Chunked) (refused_below ctx ps)
  refused ctx (list_piece t e offsets valid) = first_of (own_refusal ctx encodings.List) (refused ctx e)
  refused ctx (struct_piece t ps valid n) = first_of (own_refusal ctx encodings.Struct) (refused_below ctx ps)
  refused ctx (extension_piece t p) = first_of (own_refusal ctx encodings.Extension) (refused ctx p)

  pub refused_below : List EncodingId → ChunkList → Option EncodingId
  refused_below ctx no_pieces = None
  refused_below ctx (part p ps) = first_of (refused ctx p) (refused_below ctx ps)

abbrev pub bytes_unless : Option EncodingId → List ℕ → Option (List ℕ)
bytes_unless None bytes = Some bytes
bytes_unless (Some e) bytes = None

-- the segment of a chunk, where all its encodings are in the context
abbrev pub encode : List EncodingId → Bool → ChunkData → Option (List ℕ)
encode ctx padded p = bytes_unless (refused ctx p) (segment_bytes ctx padded p)
