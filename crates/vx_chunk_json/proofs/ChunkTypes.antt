-- What is read as a chunk of a type has that type.
use Rattle.std.proofs.Common.{◌≡◌, ℕ, ◌^◌, ◌&&◌, nat_lt, Bool, true, false, List, [], ◌∷◌, length, Option, Some, None, refl, subst}
use Rattle.std.specs.Prelude.{if◌then◌else◌, codes, bytes_eq}
use Rattle.serde_json.specs.Data.{Data, null, boolean as bool, number, string, array, object, Members, no_members, member}
use Rattle.vx_model.specs.Ty.{Ty, nullable}
use Rattle.vx_model.specs.CellData.{CellData}
use Rattle.vx_model.specs.ChunkData.{ChunkData, dict_piece, chunked_piece, list_piece, struct_piece, extension_piece, pieces_of, piece_type, joined_cells, are_parts, has_storage}
use Rattle.vx_chunk.specs.Conditions.{makes_dict, makes_list, makes_struct}
use Rattle.vx_chunk_cells.specs.Parts.{element_type, struct_fields}
use Rattle.vx_json.specs.Members.{has_keys, number_in}
use Rattle.vx_json.specs.Lists.{each}
use Rattle.vx_chunk_json.specs.Cells.{cell_of, cell_in}
use Rattle.vx_chunk_json.specs.Chunks.{plain_of, constant_of, dict_of, chunked_of, list_of, struct_of, extension_of, inner_type, codes_in, numbers_in, flags_in, has_parts, chunk_of, chunk_at, chunks_at, list_at, list_from, struct_at, struct_from, columns_at}

-- what was read, if anything, has the type
abbrev pub HasType : Ty → Option ChunkData → Type 0
HasType t None = Unit {0}
HasType t (Some p) = piece_type p ≡ t

either_typed : (t : Ty) (b : Bool) (x y : Option ChunkData) → HasType t x → HasType t y → HasType t (if b then x else y)
either_typed t true x y h k = h
either_typed t false x y h k = k

plain_typed : (t : Ty) (cells : Option (List CellData)) → HasType t (plain_of t cells)
plain_typed t None = tt
plain_typed t (Some cs) = refl

constant_typed : (t : Ty) (cell : Option CellData) (rows : Option ℕ) → HasType t (constant_of t cell rows)
unfolding constant_of
constant_typed t None rows = tt
constant_typed t (Some c) None = tt
constant_typed t (Some c) (Some n) = refl

dict_typed : (t : Ty) (places values : Option ChunkData) → HasType t values → HasType t (dict_of places values)
unfolding dict_of
dict_typed t None values h = tt
dict_typed t (Some c) None h = tt
dict_typed t (Some c) (Some v) h = either_typed t (makes_dict c v) (Some (dict_piece c v)) None h tt

chunked_typed : (t : Ty) (parts : Option (List ChunkData)) → HasType t (chunked_of t parts)
unfolding chunked_of
chunked_typed t None = tt
chunked_typed t (Some ps) = either_typed t (are_parts t ps && nat_lt (length (joined_cells (pieces_of ps))) (2 ^ 64)) (Some (chunked_piece t (pieces_of ps))) None refl tt

list_typed : (t : Ty) (elements : Option ChunkData) (offsets : Option (List ℕ)) (valid : Option (List Bool)) → HasType t (list_of t elements offsets valid)
unfolding list_of
list_typed t None offsets valid = tt
list_typed t (Some e) None valid = tt
list_typed t (Some e) (Some os) None = tt
list_typed t (Some e) (Some os) (Some vs) = either_typed t (makes_list t e os vs) (Some (list_piece t e os vs)) None refl tt

struct_typed : (t : Ty) (fields : Option (List ChunkData)) (valid : Option (List Bool)) (rows : Option ℕ) → HasType t (struct_of t fields valid rows)
unfolding struct_of
struct_typed t None valid rows = tt
struct_typed t (Some ps) None rows = tt
struct_typed t (Some ps) (Some vs) None = tt
struct_typed t (Some ps) (Some vs) (Some n) = either_typed t (makes_struct t ps vs n) (Some (struct_piece t (pieces_of ps) vs n)) None refl tt

extension_typed : (t : Ty) (storage : Option ChunkData) → HasType t (extension_of t storage)
unfolding extension_of
extension_typed t None = tt
extension_typed t (Some p) = either_typed t (has_storage t (piece_type p)) (Some (extension_piece t p)) None refl tt

list_from_typed : (t : Ty) (d : Data) → HasType t (list_from t d)
list_from_typed t null = tt
list_from_typed t (bool b) = tt
list_from_typed t (number n) = tt
list_from_typed t (string s) = tt
list_from_typed t (array ds) = tt
list_from_typed t (object ms) =
    let found : Option ChunkData = list_of t (chunk_at (element_type t) (codes "elements") ms) (numbers_in (codes "offsets") ms) (flags_in (nullable t) ms) in
    either_typed t (has_parts (nullable t) (codes "elements") (codes "offsets") ms) found None
    (list_typed t (chunk_at (element_type t) (codes "elements") ms) (numbers_in (codes "offsets") ms) (flags_in (nullable t) ms)) tt

list_at_typed : (t : Ty) (k : List ℕ) (ms : Members) → HasType t (list_at t k ms)
list_at_typed t k no_members = tt
list_at_typed t k (member l d ms) = either_typed t (bytes_eq k l) (list_from t d) (list_at t k ms) (list_from_typed t d) (list_at_typed t k ms)

struct_from_typed : (t : Ty) (d : Data) → HasType t (struct_from t d)
struct_from_typed t null = tt
struct_from_typed t (bool b) = tt
struct_from_typed t (number n) = tt
struct_from_typed t (string s) = tt
struct_from_typed t (array ds) = tt
struct_from_typed t (object ms) =
    let found : Option ChunkData = struct_of t (columns_at (struct_fields t) (codes "fields") ms) (flags_in (nullable t) ms) (number_in (codes "rows") ms) in
    either_typed t (has_parts (nullable t) (codes "fields") (codes "rows") ms) found None
    (struct_typed t (columns_at (struct_fields t) (codes "fields") ms) (flags_in (nullable t) ms) (number_in (codes "rows") ms)) tt

struct_at_typed : (t : Ty) (k : List ℕ) (ms : Members) → HasType t (struct_at t k ms)
struct_at_typed t k no_members = tt
struct_at_typed t k (member l d ms) = either_typed t (bytes_eq k l) (struct_from t d) (struct_at t k ms) (struct_from_typed t d) (struct_at_typed t k ms)

-- the forms from one on
abbrev extension_on : Ty → Members → Option ChunkData
extension_on t ms = if has_keys (codes "ext" ∷ []) ms then extension_of t (chunk_at (inner_type t) (codes "ext") ms) else None

abbrev struct_on : Ty → Members → Option ChunkData
struct_on t ms = if has_keys (codes "struct" ∷ []) ms then struct_at t (codes "struct") ms else extension_on t ms

abbrev list_on : Ty → Members → Option ChunkData
list_on t ms = if has_keys (codes "list" ∷ []) ms then list_at t (codes "list") ms else struct_on t ms

abbrev chunked_on : Ty → Members → Option ChunkData
chunked_on t ms = if has_keys (codes "chunked" ∷ []) ms then chunked_of t (chunks_at t (codes "chunked") ms) else list_on t ms

abbrev dict_on : Ty → Members → Option ChunkData
dict_on t ms = if has_keys (codes "dict" ∷ codes "ptype" ∷ codes "values" ∷ []) ms then dict_of (codes_in ms) (chunk_at t (codes "values") ms) else chunked_on t ms

chunked_on_typed : (t : Ty) (ms : Members) → HasType t (chunked_on t ms)
chunked_on_typed t ms =
    let last : HasType t (extension_on t ms) = either_typed t (has_keys (codes "ext" ∷ []) ms) (extension_of t (chunk_at (inner_type t) (codes "ext") ms)) None (extension_typed t (chunk_at (inner_type t) (codes "ext") ms)) tt in
    let structs : HasType t (struct_on t ms) = either_typed t (has_keys (codes "struct" ∷ []) ms) (struct_at t (codes "struct") ms) (extension_on t ms) (struct_at_typed t (codes "struct") ms) last in
    let lists : HasType t (list_on t ms) = either_typed t (has_keys (codes "list" ∷ []) ms) (list_at t (codes "list") ms) (struct_on t ms) (list_at_typed t (codes "list") ms) structs in
    either_typed t (has_keys (codes "chunked" ∷ []) ms) (chunked_of t (chunks_at t (codes "chunked") ms)) (list_on t ms) (chunked_typed t (chunks_at t (codes "chunked") ms)) lists

mutual
  pub chunk_typed : (t : Ty) (d : Data) → HasType t (chunk_of t d)
  chunk_typed t null = tt
  chunk_typed t (bool b) = tt
  chunk_typed t (number n) = tt
  chunk_typed t (string s) = tt
  chunk_typed t (array ds) = plain_typed t (each (cell_of t) ds)
  chunk_typed t (object ms) =
      either_typed t (has_keys (codes "constant" ∷ codes "rows" ∷ []) ms) (constant_of t (cell_in t (codes "constant") ms) (number_in (codes "rows") ms)) (dict_on t ms)
      (constant_typed t (cell_in t (codes "constant") ms) (number_in (codes "rows") ms))
      (either_typed t (has_keys (codes "dict" ∷ codes "ptype" ∷ codes "values" ∷ []) ms) (dict_of (codes_in ms) (chunk_at t (codes "values") ms)) (chunked_on t ms)
      (dict_typed t (codes_in ms) (chunk_at t (codes "values") ms) (at_typed t (codes "values") ms)) (chunked_on_typed t ms))

  at_typed : (t : Ty) (k : List ℕ) (ms : Members) → HasType t (chunk_at t k ms)
  at_typed t k no_members = tt
  at_typed t k (member l d ms) = either_typed t (bytes_eq k l) (chunk_of t d) (chunk_at t k ms) (chunk_typed t d) (at_typed t k ms)

pub has_type : (t : Ty) (d : Data) (p : ChunkData) → chunk_of t d ≡ Some p → piece_type p ≡ t
has_type t d p h = subst (HasType t) h (chunk_typed t d)

pub ruleset type_rules = (has_type)
