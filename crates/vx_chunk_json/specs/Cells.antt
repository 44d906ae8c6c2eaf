-- The cell of a type that a JSON value says.
use Rattle.std.specs.Prelude.{ℕ, ℤ, Bool, true, false, if◌then◌else◌, List, [], ◌∷◌, codes, Option, Some, None, Result, Ok, Err}
use Rattle.hex.specs.Hex.{decode_of}
use Rattle.hex.specs.declared.error.FromHexError.{FromHexError}
use Rattle.serde_json.specs.Data.{Data, null, boolean as bool, number, string, array, object, Items, no_items, item, Members}
use Rattle.serde_json.specs.Find.{get_member, as_integer}
use Rattle.vx_model.specs.declared.ptype.PType.{PType}
use Rattle.vx_model.specs.Numbers.{int_fits}
use Rattle.vx_model.specs.Ty.{Ty, Tys, boolean, primitive, utf8, binary, list, struct, extension, no_fields, field}
use Rattle.vx_model.specs.CellData.{CellData, null_cell, bool_cell, int_cell, text_cell, bytes_cell, list_cell, struct_cell, no_cells, trees_of}
use Rattle.vx_json.specs.Steps.{◌>>=◌}
use Rattle.vx_json.specs.Members.{has_keys, array_in}
use Rattle.vx_json.specs.Lists.{first_and, each}

-- a leaf's null, where the type is nullable
abbrev pub null_of : Bool → Option CellData
null_of n = if n then Some null_cell else None

abbrev pub bool_of : Bool → Data → Option CellData
bool_of n null = null_of n
bool_of n (bool b) = Some (bool_cell b)
bool_of n d = None

-- a whole number in the type's range
unfoldable pub ranged : PType → Option ℤ → Option CellData
ranged p integer = do
  z ← integer
  if int_fits p z then Some (int_cell z) else None

abbrev pub int_of : PType → Bool → Data → Option CellData
int_of p n null = null_of n
int_of p n (number x) = ranged p (as_integer x)
int_of p n d = None

abbrev pub text_of : Bool → Data → Option CellData
text_of n null = null_of n
text_of n (string s) = Some (text_cell s)
text_of n d = None

-- hex text, of lower and upper case
abbrev pub decoded : Result (List ℕ) FromHexError → Option CellData
decoded (Ok bytes) = Some (bytes_cell bytes)
decoded (Err e) = None

abbrev pub bytes_of : Bool → Data → Option CellData
bytes_of n null = null_of n
bytes_of n (string s) = decoded (decode_of s)
bytes_of n d = None

-- {"invalid": [..]}
abbrev pub invalid_in : Members → Option Items
invalid_in ms = if has_keys (codes "invalid" ∷ []) ms then array_in (codes "invalid") ms else None

abbrev pub list_with : Bool → Option (List CellData) → Option CellData
list_with valid None = None
list_with valid (Some cs) = Some (list_cell valid (trees_of cs))

abbrev pub struct_with : Bool → Option (List CellData) → Option CellData
struct_with valid None = None
struct_with valid (Some cs) = Some (struct_cell valid (trees_of cs))

-- a list of cells; an invalid one with the cells that it keeps, or null for one without cells, where the type is nullable
abbrev pub list_of : Bool → (Items → Option (List CellData)) → Data → Option CellData
list_of n read null = if n then Some (list_cell false no_cells) else None
list_of n read (array ds) = list_with true (read ds)
list_of n read (object ms) = if n then list_with false (invalid_in ms >>= read) else None
list_of n read d = None

-- a list of one cell a field; an invalid one with its cells, where the type is nullable
abbrev pub struct_of : Bool → (Items → Option (List CellData)) → Data → Option CellData
struct_of n read (array ds) = struct_with true (read ds)
struct_of n read (object ms) = if n then struct_with false (invalid_in ms >>= read) else None
struct_of n read d = None

abbrev pub none_left : Items → Option (List CellData)
none_left no_items = Some []
none_left (item d ds) = None

abbrev pub first_then : (Data → Option CellData) → (Items → Option (List CellData)) → Items → Option (List CellData)
first_then read others no_items = None
first_then read others (item d ds) = first_and (read d) (others ds)

-- null, a bool, a whole number, a text or hex text by the type; a list or a struct as a list of cells
abbrev mutual
  pub cell_of : Ty → Data → Option CellData
  cell_of (boolean n) = bool_of n
  cell_of (primitive p n) = int_of p n
  cell_of (utf8 n) = text_of n
  cell_of (binary n) = bytes_of n
  cell_of (list t n) = list_of n (each (cell_of t))
  cell_of (struct fs n) = struct_of n (field_cells fs)
  cell_of (extension tag t) = cell_of t

  -- one cell a field, in order
  pub field_cells : Tys → Items → Option (List CellData)
  field_cells no_fields = none_left
  field_cells (field name t fs) = first_then (cell_of t) (field_cells fs)

abbrev pub cell_in : Ty → List ℕ → Members → Option CellData
cell_in t k ms = get_member k ms >>= cell_of t
