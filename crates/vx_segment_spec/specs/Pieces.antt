-- Reading the chunk of a type from the nodes and the buffers of a segment. A node is refused by its number: first for
-- its own shape and buffers, then its children are read in order, then it is refused for what needs its children.
use Rattle.std.specs.Prelude.{ℕ, zero, suc, ◌+◌, ◌-◌, ◌&&◌, ◌==◌, Bool, true, false, if◌then◌else◌, List, [], ◌∷◌, length, slice_get, Option, Some, None, Result, Ok, Err}
use Rattle.vx_model.specs.declared.encoding.EncodingId.{EncodingId}
use Rattle.vx_model.specs.declared.encoding.EncodingId.TheVariants as encodings
use Rattle.vx_model.specs.declared.ptype.PType.{PType}
use Rattle.vx_model.specs.declared.ptype.PType.TheVariants.{U8, U16, U32, U64}
use Rattle.vx_model.specs.Words.{all_by}
use Rattle.vx_model.specs.Ty.{Ty, Tys, boolean, primitive, utf8, binary, list, struct, extension, no_fields, field}
use Rattle.vx_model.specs.ChunkData.{ChunkData, ChunkList, plain_piece, constant_piece, dict_piece, chunked_piece, list_piece, struct_piece, extension_piece, pieces_of, cells, joined_cells, is_code, is_dict_type, are_offsets}
use Rattle.vx_segment_writer.specs.Head.{Head}
use Rattle.vx_cell_codec.specs.Reading.{cells_at, only_cell_at}
use Rattle.vx_cell_codec.specs.Columns.{offsets_at, flags_at}
use Rattle.vx_byte_reader.specs.Places.{◌>>=◌}
use Rattle.vx_segment_spec.specs.Reading.{Fault, bad_type}

-- what is still to be read: nodes in pre-order, and their buffers
pub record Rest : Type 0 where
  pub nodes : List Head
  pub buffers : List (List ℕ)

-- what a segment is read by: the context, and how many nodes there are
pub record Frame : Type 0 where
  pub ids : List EncodingId
  pub total : ℕ

-- the number of the next node, in pre-order from 0
abbrev pub number : Frame → Rest → ℕ
number frame rest = frame.total - length rest.nodes

-- ---- steps for the node of number k

-- the node is refused unless the test holds
abbrev pub unless_bad : {A : Type 0} → ℕ → Bool → Result A Fault → Result A Fault
unless_bad k b read = if b then read else Err (bad_type k)

-- what a node is where its parts fit
abbrev pub made_at : ℕ → Bool → ChunkData → Rest → Result (ChunkData × Rest) Fault
made_at k fit p rest = unless_bad k fit (Ok (p, rest))

-- the node is refused where there is nothing
abbrev pub given : {A : Type 0} → ℕ → Option A → Result A Fault
given k None = Err (bad_type k)
given k (Some x) = Ok x

-- the next node
abbrev pub first_node : ℕ → List (List ℕ) → List Head → Result (Head × Rest) Fault
first_node k bs [] = Err (bad_type k)
first_node k bs (n ∷ ns) = Ok (n, record { nodes = ns; buffers = bs })

abbrev pub node_of : Frame → Rest → Result (Head × Rest) Fault
node_of frame rest = first_node (number frame rest) rest.buffers rest.nodes

-- the next buffer
abbrev pub first_buffer : ℕ → List Head → List (List ℕ) → Result (List ℕ × Rest) Fault
first_buffer k ns [] = Err (bad_type k)
first_buffer k ns (b ∷ bs) = Ok (b, record { nodes = ns; buffers = bs })

abbrev pub buffer_of : ℕ → Rest → Result (List ℕ × Rest) Fault
buffer_of k rest = first_buffer k rest.nodes rest.buffers

-- whether a node has so many buffers and children, and nothing more to tell
abbrev pub is_shaped : ℕ → ℕ → Head → Bool
is_shaped buffers children n = (n.extra == 0) && ((length n.lengths == buffers) && (n.children == children))

-- a buffer of flags where the type is nullable
abbrev pub flag_buffers : Bool → ℕ
flag_buffers nullable = if nullable then 1 else 0

-- a flag a row where the type is nullable
unfoldable pub flags_of : Bool → ℕ → ℕ → Rest → Result (List Bool × Rest) Fault
flags_of false k rows rest = Ok ([], rest)
flags_of true k rows rest = do
  buffer ← buffer_of k rest
  flags ← given k (flags_at rows buffer.0)
  Ok (flags, buffer.1)

-- chunks one after the other
unfoldable pub pieces_at : (Rest → Result (ChunkData × Rest) Fault) → ℕ → Rest → Result (List ChunkData × Rest) Fault
pieces_at read zero rest = Ok ([], rest)
pieces_at read (suc n) rest = do
  first ← read rest
  others ← pieces_at read n first.1
  Ok (first.0 ∷ others.0, others.1)

-- ---- the encodings, each for the node n of number k, whose children and buffers are next

unfoldable pub plain_at : Ty → ℕ → Head → Rest → Result (ChunkData × Rest) Fault
plain_at t k n rest = unless_bad k (is_shaped 1 0 n) (do
  buffer ← buffer_of k rest
  cs ← given k (cells_at t n.rows buffer.0)
  Ok (plain_piece t cs, buffer.1))

unfoldable pub constant_at : Ty → ℕ → Head → Rest → Result (ChunkData × Rest) Fault
constant_at t k n rest = unless_bad k (is_shaped 1 0 n) (do
  buffer ← buffer_of k rest
  c ← given k (only_cell_at t buffer.0)
  Ok (constant_piece t c n.rows, buffer.1))

-- the type of codes by its number
abbrev pub code_type : ℕ → Option PType
code_type zero = Some U8
code_type (suc zero) = Some U16
code_type (suc (suc zero)) = Some U32
code_type (suc (suc (suc zero))) = Some U64
code_type (suc (suc (suc (suc n)))) = None

abbrev pub simple_of : Ty → ℕ → Head → Option EncodingId → Rest → Result (ChunkData × Rest) Fault
simple_of t k n (Some encodings.Plain) rest = plain_at t k n rest
simple_of t k n (Some encodings.Constant) rest = constant_at t k n rest
simple_of t k n e rest = Err (bad_type k)

-- a plain or a constant chunk, as codes and values are
unfoldable pub simple_at : Frame → Ty → Rest → Result (ChunkData × Rest) Fault
simple_at frame t rest = do
  node ← node_of frame rest
  simple_of t (number frame rest) node.0 (slice_get frame.ids node.0.index) node.1

-- codes are below the number of values, and as many as rows
abbrev pub are_codes : ℕ → ChunkData → ChunkData → Bool
are_codes rows codes values = (length (cells codes) == rows) && all_by (is_code (length (cells values))) (cells codes)

unfoldable pub dict_at : Frame → Ty → ℕ → Head → Rest → Result (ChunkData × Rest) Fault
dict_at frame t k n rest = unless_bad k (is_dict_type t && ((length n.lengths == 0) && (n.children == 2))) (do
  p ← given k (code_type n.extra)
  codes ← simple_at frame (primitive p false) rest
  values ← simple_at frame t codes.1
  unless_bad k (are_codes n.rows codes.0 values.0) (Ok (dict_piece codes.0 values.0, values.1)))

-- parts that are no chunks of parts
unfoldable pub chunked_at : Ty → (Rest → Result (ChunkData × Rest) Fault) → ℕ → Head → Rest → Result (ChunkData × Rest) Fault
chunked_at t read k n rest = unless_bad k ((n.extra == 0) && (length n.lengths == 0)) (do
  parts ← pieces_at read n.children rest
  unless_bad k (length (joined_cells (pieces_of parts.0)) == n.rows) (Ok (chunked_piece t (pieces_of parts.0), parts.1)))

unfoldable pub list_at : Ty → Bool → (Rest → Result (ChunkData × Rest) Fault) → ℕ → Head → Rest → Result (ChunkData × Rest) Fault
list_at t nullable read k n rest = unless_bad k (is_shaped (suc (flag_buffers nullable)) 1 n) (do
  buffer ← buffer_of k rest
  offsets ← given k (offsets_at n.rows buffer.0)
  valid ← flags_of nullable k n.rows buffer.1
  elements ← read valid.1
  unless_bad k (are_offsets (length (cells elements.0)) offsets) (Ok (list_piece t elements.0 offsets valid.0, elements.1)))

-- whether each chunk has so many rows
abbrev pub have_rows : ℕ → List ChunkData → Bool
have_rows rows = all_by (λ p. length (cells p) == rows)

unfoldable pub struct_at : Ty → Bool → ℕ → (Rest → Result (List ChunkData × Rest) Fault) → ℕ → Head → Rest → Result (ChunkData × Rest) Fault
struct_at t nullable fields read k n rest = unless_bad k (is_shaped (flag_buffers nullable) fields n) (do
  valid ← flags_of nullable k n.rows rest
  columns ← read valid.1
  unless_bad k (have_rows n.rows columns.0) (Ok (struct_piece t (pieces_of columns.0) valid.0 n.rows, columns.1)))

unfoldable pub extension_at : Ty → (Rest → Result (ChunkData × Rest) Fault) → ℕ → Head → Rest → Result (ChunkData × Rest) Fault
extension_at t read k n rest = unless_bad k (is_shaped 0 1 n) (do
  storage ← read rest
  unless_bad k (length (cells storage.0) == n.rows) (Ok (extension_piece t storage.0, storage.1)))

-- ---- chunks of a type: which encodings it may have

-- the reader of the encodings that one kind of type has alone
abbrev pub Own : Type 0
Own = ℕ → Head → EncodingId → Rest → Result (ChunkData × Rest) Fault

abbrev pub none_own : Own
none_own k n e rest = Err (bad_type k)

abbrev pub list_own : Ty → Bool → (Rest → Result (ChunkData × Rest) Fault) → Own
list_own t nullable read k n encodings.List rest = list_at t nullable read k n rest
list_own t nullable read k n e rest = Err (bad_type k)

abbrev pub struct_own : Ty → Bool → ℕ → (Rest → Result (List ChunkData × Rest) Fault) → Own
struct_own t nullable fields read k n encodings.Struct rest = struct_at t nullable fields read k n rest
struct_own t nullable fields read k n e rest = Err (bad_type k)

abbrev pub extension_own : Ty → (Rest → Result (ChunkData × Rest) Fault) → Own
extension_own t read k n encodings.Extension rest = extension_at t read k n rest
extension_own t read k n e rest = Err (bad_type k)

-- a chunk that isn't one of parts
abbrev pub part_of : Frame → Ty → Own → ℕ → Head → Option EncodingId → Rest → Result (ChunkData × Rest) Fault
part_of frame t own k n (Some encodings.Plain) rest = plain_at t k n rest
part_of frame t own k n (Some encodings.Constant) rest = constant_at t k n rest
part_of frame t own k n (Some encodings.Dict) rest = dict_at frame t k n rest
part_of frame t own k n (Some encodings.Chunked) rest = Err (bad_type k)
part_of frame t own k n (Some e) rest = own k n e rest
part_of frame t own k n None rest = Err (bad_type k)

unfoldable pub part_at : Frame → Ty → Own → Rest → Result (ChunkData × Rest) Fault
part_at frame t own rest = do
  node ← node_of frame rest
  part_of frame t own (number frame rest) node.0 (slice_get frame.ids node.0.index) node.1

abbrev pub whole_of : Frame → Ty → Own → ℕ → Head → Option EncodingId → Rest → Result (ChunkData × Rest) Fault
whole_of frame t own k n (Some encodings.Chunked) rest = chunked_at t (part_at frame t own) k n rest
whole_of frame t own k n e rest = part_of frame t own k n e rest

unfoldable pub whole_at : Frame → Ty → Own → Rest → Result (ChunkData × Rest) Fault
whole_at frame t own rest = do
  node ← node_of frame rest
  whole_of frame t own (number frame rest) node.0 (slice_get frame.ids node.0.index) node.1

unfoldable pub no_pieces_at : Rest → Result (List ChunkData × Rest) Fault
no_pieces_at rest = Ok ([], rest)

unfoldable pub piece_then : (Rest → Result (ChunkData × Rest) Fault) → (Rest → Result (List ChunkData × Rest) Fault) → Rest → Result (List ChunkData × Rest) Fault
piece_then read others rest = do
  first ← read rest
  more ← others first.1
  Ok (first.0 ∷ more.0, more.1)

abbrev pub count_fields : Tys → ℕ
count_fields no_fields = 0
count_fields (field name t fs) = suc (count_fields fs)

abbrev mutual
  pub own_of : Frame → Ty → Own
  own_of frame (boolean n) = none_own
  own_of frame (primitive p n) = none_own
  own_of frame (utf8 n) = none_own
  own_of frame (binary n) = none_own
  own_of frame (list t n) = list_own (list t n) n (whole_at frame t (own_of frame t))
  own_of frame (struct fs n) = struct_own (struct fs n) n (count_fields fs) (columns_at frame fs)
  own_of frame (extension tag t) = extension_own (extension tag t) (whole_at frame t (own_of frame t))

  -- a chunk a field, in order
  pub columns_at : Frame → Tys → Rest → Result (List ChunkData × Rest) Fault
  columns_at frame no_fields = no_pieces_at
  columns_at frame (field name t fs) = piece_then (whole_at frame t (own_of frame t)) (columns_at frame fs)

-- a chunk of the type
abbrev pub piece_at : Frame → Ty → Rest → Result (ChunkData × Rest) Fault
piece_at frame t = whole_at frame t (own_of frame t)
