-- The chunk of a type that a JSON value says.
use Rattle.std.specs.Prelude.{ℕ, ◌^◌, nat_lt, ◌&&◌, Bool, false, if◌then◌else◌, List, [], ◌∷◌, length, codes, bytes_eq, Option, Some, None}
use Rattle.serde_json.specs.Data.{Data, null, boolean as bool, number, string, array, object, Items, no_items, item, Members, no_members, member}
use Rattle.serde_json.specs.Find.{get_member, as_bool}
use Rattle.vx_model.specs.declared.ptype.PType.{PType}
use Rattle.vx_model.specs.declared.ptype.PType.TheVariants.{U8, U16, U32, U64}
use Rattle.vx_model.specs.Numbers.{ptype_name}
use Rattle.vx_model.specs.Ty.{Ty, Tys, primitive, extension, no_fields, field, nullable}
use Rattle.vx_model.specs.CellData.{CellData}
use Rattle.vx_model.specs.ChunkData.{ChunkData, plain_piece, constant_piece, dict_piece, chunked_piece, list_piece, struct_piece, extension_piece, pieces_of, piece_type, joined_cells, are_parts, has_storage}
use Rattle.vx_chunk.specs.Conditions.{makes_dict, makes_list, makes_struct}
use Rattle.vx_chunk_cells.specs.Parts.{element_type, struct_fields}
use Rattle.vx_json.specs.Steps.{◌>>=◌}
use Rattle.vx_json.specs.Members.{has_keys, text_in, array_in, number_in}
use Rattle.vx_json.specs.Values.{whole}
use Rattle.vx_json.specs.Lists.{first_and, each}
use Rattle.vx_chunk_json.specs.Types.{type_of}
use Rattle.vx_chunk_json.specs.Cells.{cell_of, cell_in}

-- ---- the forms, of what stands at their keys; a condition of the encoding that fails gives nothing

abbrev pub plain_of : Ty → Option (List CellData) → Option ChunkData
plain_of t None = None
plain_of t (Some cs) = Some (plain_piece t cs)

unfoldable pub constant_of : Ty → Option CellData → Option ℕ → Option ChunkData
constant_of t cell rows = do
  c ← cell
  n ← rows
  Some (constant_piece t c n)

unfoldable pub dict_of : Option ChunkData → Option ChunkData → Option ChunkData
dict_of places values = do
  c ← places
  v ← values
  if makes_dict c v then Some (dict_piece c v) else None

-- rows fit 64 bits
unfoldable pub chunked_of : Ty → Option (List ChunkData) → Option ChunkData
chunked_of t parts = do
  ps ← parts
  if are_parts t ps && nat_lt (length (joined_cells (pieces_of ps))) (2 ^ 64) then Some (chunked_piece t (pieces_of ps)) else None

unfoldable pub list_of : Ty → Option ChunkData → Option (List ℕ) → Option (List Bool) → Option ChunkData
list_of t elements offsets valid = do
  e ← elements
  os ← offsets
  vs ← valid
  if makes_list t e os vs then Some (list_piece t e os vs) else None

unfoldable pub struct_of : Ty → Option (List ChunkData) → Option (List Bool) → Option ℕ → Option ChunkData
struct_of t fields valid rows = do
  ps ← fields
  vs ← valid
  n ← rows
  if makes_struct t ps vs n then Some (struct_piece t (pieces_of ps) vs n) else None

unfoldable pub extension_of : Ty → Option ChunkData → Option ChunkData
extension_of t storage = do
  p ← storage
  if has_storage t (piece_type p) then Some (extension_piece t p) else None

-- ---- what stands at keys, but for chunks

-- an unsigned integer type by its name
abbrev pub code_type : List ℕ → Option PType
code_type s = if bytes_eq s (ptype_name U8) then Some U8 else if bytes_eq s (ptype_name U16) then Some U16 else if bytes_eq s (ptype_name U32) then Some U32 else if bytes_eq s (ptype_name U64) then Some U64 else None

-- a dictionary's codes, of the type that `ptype` names
abbrev pub codes_as : Option Items → PType → Option ChunkData
codes_as ds p = plain_of (primitive p false) (ds >>= each (cell_of (primitive p false)))

abbrev pub codes_in : Members → Option ChunkData
codes_in ms = (text_in (codes "ptype") ms >>= code_type) >>= codes_as (array_in (codes "dict") ms)

abbrev pub numbers_in : List ℕ → Members → Option (List ℕ)
numbers_in k ms = array_in k ms >>= each whole

-- flags where the type is nullable, else none
abbrev pub flags_in : Bool → Members → Option (List Bool)
flags_in n ms = if n then (array_in (codes "valid") ms >>= each as_bool) else Some []

-- the keys of a list or a struct, with `valid` exactly where the type is nullable
abbrev pub has_parts : Bool → List ℕ → List ℕ → Members → Bool
has_parts n a b ms = if n then has_keys (a ∷ b ∷ codes "valid" ∷ []) ms else has_keys (a ∷ b ∷ []) ms

-- an extension's storage type
abbrev pub inner_type : Ty → Ty
inner_type (extension tag t) = t
inner_type t = t

-- ---- chunks

-- a list of cells; {"constant": CELL, "rows": n}; {"dict": [codes], "ptype": "u8", "values": CHUNK}; {"chunked": [CHUNK]};
-- {"list": {"elements": CHUNK, "offsets": [n], "valid": [bool]}}; {"struct": {"fields": [CHUNK], "valid": [bool], "rows": n}}; {"ext": CHUNK}
abbrev mutual
  pub chunk_of : Ty → Data → Option ChunkData
  chunk_of t null = None
  chunk_of t (bool b) = None
  chunk_of t (number n) = None
  chunk_of t (string s) = None
  chunk_of t (array ds) = plain_of t (each (cell_of t) ds)
  chunk_of t (object ms) =
      if has_keys (codes "constant" ∷ codes "rows" ∷ []) ms then constant_of t (cell_in t (codes "constant") ms) (number_in (codes "rows") ms)
      else if has_keys (codes "dict" ∷ codes "ptype" ∷ codes "values" ∷ []) ms then dict_of (codes_in ms) (chunk_at t (codes "values") ms)
      else if has_keys (codes "chunked" ∷ []) ms then chunked_of t (chunks_at t (codes "chunked") ms)
      else if has_keys (codes "list" ∷ []) ms then list_at t (codes "list") ms
      else if has_keys (codes "struct" ∷ []) ms then struct_at t (codes "struct") ms
      else if has_keys (codes "ext" ∷ []) ms then extension_of t (chunk_at (inner_type t) (codes "ext") ms)
      else None

  -- the chunk at a key
  pub chunk_at : Ty → List ℕ → Members → Option ChunkData
  chunk_at t k no_members = None
  chunk_at t k (member l d ms) = if bytes_eq k l then chunk_of t d else chunk_at t k ms

  -- the chunks of one type at a key
  pub chunks_at : Ty → List ℕ → Members → Option (List ChunkData)
  chunks_at t k no_members = None
  chunks_at t k (member l d ms) = if bytes_eq k l then chunks_of t d else chunks_at t k ms

  pub chunks_of : Ty → Data → Option (List ChunkData)
  chunks_of t (array ds) = chunks_in t ds
  chunks_of t d = None

  pub chunks_in : Ty → Items → Option (List ChunkData)
  chunks_in t no_items = Some []
  chunks_in t (item d ds) = first_and (chunk_of t d) (chunks_in t ds)

  -- the parts of a list at a key
  pub list_at : Ty → List ℕ → Members → Option ChunkData
  list_at t k no_members = None
  list_at t k (member l d ms) = if bytes_eq k l then list_from t d else list_at t k ms

  pub list_from : Ty → Data → Option ChunkData
  list_from t (object ms) =
      if has_parts (nullable t) (codes "elements") (codes "offsets") ms then list_of t (chunk_at (element_type t) (codes "elements") ms) (numbers_in (codes "offsets") ms) (flags_in (nullable t) ms)
      else None
  list_from t d = None

  -- the parts of a struct at a key
  pub struct_at : Ty → List ℕ → Members → Option ChunkData
  struct_at t k no_members = None
  struct_at t k (member l d ms) = if bytes_eq k l then struct_from t d else struct_at t k ms

  pub struct_from : Ty → Data → Option ChunkData
  struct_from t (object ms) =
      if has_parts (nullable t) (codes "fields") (codes "rows") ms then struct_of t (columns_at (struct_fields t) (codes "fields") ms) (flags_in (nullable t) ms) (number_in (codes "rows") ms)
      else None
  struct_from t d = None

  -- a chunk a field, in order
  pub columns_at : Tys → List ℕ → Members → Option (List ChunkData)
  columns_at fs k no_members = None
  columns_at fs k (member l d ms) = if bytes_eq k l then columns_of fs d else columns_at fs k ms

  pub columns_of : Tys → Data → Option (List ChunkData)
  columns_of fs (array ds) = columns_in fs ds
  columns_of fs d = None

  pub columns_in : Tys → Items → Option (List ChunkData)
  columns_in no_fields no_items = Some []
  columns_in no_fields (item d ds) = None
  columns_in (field name t fs) no_items = None
  columns_in (field name t fs) (item d ds) = first_and (chunk_of t d) (columns_in fs ds)

-- ---- batches

-- a chunk of the schema, or {"as": TYPE, "chunk": CHUNK}
abbrev pub batch_as : Members → Ty → Option ChunkData
batch_as ms t = get_member (codes "chunk") ms >>= chunk_of t

abbrev pub typed_batch : Members → Option ChunkData
typed_batch ms = (get_member (codes "as") ms >>= type_of) >>= batch_as ms

abbrev pub batch_of : Ty → Data → Option ChunkData
batch_of t (object ms) = if has_keys (codes "as" ∷ codes "chunk" ∷ []) ms then typed_batch ms else chunk_of t (object ms)
batch_of t d = chunk_of t d
