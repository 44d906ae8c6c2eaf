-- Cells, and what is said of a cell by its type.
use Rattle.std.specs.Prelude.{ℕ, ◌+◌, ◌&&◌, ◌||◌, Bool, true, false, if◌then◌else◌, List, [], ◌∷◌, ◌++◌, length, ℤ}
use Rattle.std.specs.Int.{w8, w16, w32, w64, to_le_bytes, cast_unsigned}
use Rattle.vx_model.specs.declared.ptype.PType.{PType}
use Rattle.vx_model.specs.declared.ptype.PType.TheVariants.{U8, U16, U32, U64, I8, I16, I32, I64}
use Rattle.vx_model.specs.Words.{joined_by, total_by, all_by}
use Rattle.vx_model.specs.Numbers.{ptype_bytes, int_fits}
use Rattle.vx_model.specs.Ty.{Ty, Tys, boolean, primitive, utf8, binary, list, struct, extension, no_fields, field}

mutual
  pub data CellData : Type 0 where
    null_cell : CellData
    bool_cell : Bool → CellData
    int_cell : ℤ → CellData
    text_cell : List ℕ → CellData
    bytes_cell : List ℕ → CellData
    list_cell : Bool → CellList → CellData
    struct_cell : Bool → CellList → CellData

  pub data CellList : Type 0 where
    no_cells : CellList
    cell : CellData → CellList → CellList

abbrev pub trees_of : List CellData → CellList
trees_of [] = no_cells
trees_of (c ∷ cs) = cell c (trees_of cs)

abbrev pub items : CellList → List CellData
items no_cells = []
items (cell c cs) = c ∷ items cs

-- ---- which cells a type has

-- null and false flags need a nullable type
abbrev pub flag_fits : Bool → Bool → Bool
flag_fits valid n = valid || n

abbrev pub bool_fits : Bool → CellData → Bool
bool_fits n null_cell = n
bool_fits n (bool_cell b) = true
bool_fits n c = false

abbrev pub primitive_fits : PType → Bool → CellData → Bool
primitive_fits p n null_cell = n
primitive_fits p n (int_cell i) = int_fits p i
primitive_fits p n c = false

abbrev pub text_fits : Bool → CellData → Bool
text_fits n null_cell = n
text_fits n (text_cell s) = true
text_fits n c = false

abbrev pub bytes_fits : Bool → CellData → Bool
bytes_fits n null_cell = n
bytes_fits n (bytes_cell s) = true
bytes_fits n c = false

abbrev pub list_fits : Bool → (CellData → Bool) → CellData → Bool
list_fits n f (list_cell valid cs) = flag_fits valid n && all_by f (items cs)
list_fits n f c = false

abbrev pub struct_fits : Bool → (List CellData → Bool) → CellData → Bool
struct_fits n f (struct_cell valid cs) = flag_fits valid n && f (items cs)
struct_fits n f c = false

abbrev pub none_fit : List CellData → Bool
none_fit [] = true
none_fit (c ∷ cs) = false

abbrev pub first_fits : (CellData → Bool) → (List CellData → Bool) → List CellData → Bool
first_fits f g [] = false
first_fits f g (c ∷ cs) = f c && g cs

abbrev mutual
  pub fits : Ty → CellData → Bool
  fits (boolean n) = bool_fits n
  fits (primitive p n) = primitive_fits p n
  fits (utf8 n) = text_fits n
  fits (binary n) = bytes_fits n
  fits (list t n) = list_fits n (fits t)
  fits (struct fs n) = struct_fits n (fields_fit fs)
  fits (extension tag t) = fits t

  -- one cell a field, in order
  pub fields_fit : Tys → List CellData → Bool
  fields_fit no_fields = none_fit
  fields_fit (field name t fs) = first_fits (fits t) (fields_fit fs)

-- ---- row size, in bytes

-- one byte more where the type is nullable
abbrev pub null_byte : Bool → ℕ
null_byte n = if n then 1 else 0

abbrev pub fixed_size : Bool → ℕ → CellData → ℕ
fixed_size n width c = width + null_byte n

abbrev pub text_size : Bool → CellData → ℕ
text_size n (text_cell s) = 16 + length s + null_byte n
text_size n (bytes_cell s) = 16 + length s + null_byte n
text_size n c = 16 + null_byte n

abbrev pub list_size : Bool → (CellData → ℕ) → CellData → ℕ
list_size n f (list_cell valid cs) = 8 + total_by f (items cs) + null_byte n
list_size n f c = 8 + null_byte n

abbrev pub struct_size : Bool → (List CellData → ℕ) → CellData → ℕ
struct_size n f (struct_cell valid cs) = f (items cs) + null_byte n
struct_size n f c = null_byte n

abbrev pub nothing_sized : List CellData → ℕ
nothing_sized cs = 0

abbrev pub first_sized : (CellData → ℕ) → (List CellData → ℕ) → List CellData → ℕ
first_sized f g [] = 0
first_sized f g (c ∷ cs) = f c + g cs

-- bytes that a cell counts for, kept items of an invalid list or struct too
abbrev mutual
  pub cell_size : Ty → CellData → ℕ
  cell_size (boolean n) = fixed_size n 1
  cell_size (primitive p n) = fixed_size n (ptype_bytes p)
  cell_size (utf8 n) = text_size n
  cell_size (binary n) = text_size n
  cell_size (list t n) = list_size n (cell_size t)
  cell_size (struct fs n) = struct_size n (fields_size fs)
  cell_size (extension tag t) = cell_size t

  pub fields_size : Tys → List CellData → ℕ
  fields_size no_fields = nothing_sized
  fields_size (field name t fs) = first_sized (cell_size t) (fields_size fs)

-- ---- bytes in a segment

abbrev pub bit : Bool → ℕ
bit b = if b then 1 else 0

-- of a nullable type first 1, or 0 for a null or an invalid cell
abbrev pub flag_bytes : Bool → Bool → List ℕ
flag_bytes n valid = if n then bit valid ∷ [] else []

-- a length or a count
abbrev pub u64_bytes : ℕ → List ℕ
u64_bytes n = to_le_bytes w64 n

-- two's complement, the lowest byte first
abbrev pub int_bytes : PType → ℤ → List ℕ
int_bytes U8 n = to_le_bytes w8 (cast_unsigned w8 n)
int_bytes U16 n = to_le_bytes w16 (cast_unsigned w16 n)
int_bytes U32 n = to_le_bytes w32 (cast_unsigned w32 n)
int_bytes U64 n = to_le_bytes w64 (cast_unsigned w64 n)
int_bytes I8 n = to_le_bytes w8 (cast_unsigned w8 n)
int_bytes I16 n = to_le_bytes w16 (cast_unsigned w16 n)
int_bytes I32 n = to_le_bytes w32 (cast_unsigned w32 n)
int_bytes I64 n = to_le_bytes w64 (cast_unsigned w64 n)

abbrev pub bool_spelling : Bool → CellData → List ℕ
bool_spelling n (bool_cell b) = flag_bytes n true ++ (bit b ∷ [])
bool_spelling n c = flag_bytes n false

abbrev pub primitive_spelling : PType → Bool → CellData → List ℕ
primitive_spelling p n (int_cell i) = flag_bytes n true ++ int_bytes p i
primitive_spelling p n c = flag_bytes n false

abbrev pub text_spelling : Bool → CellData → List ℕ
text_spelling n (text_cell s) = flag_bytes n true ++ (u64_bytes (length s) ++ s)
text_spelling n (bytes_cell s) = flag_bytes n true ++ (u64_bytes (length s) ++ s)
text_spelling n c = flag_bytes n false

abbrev pub list_spelling : Bool → (CellData → List ℕ) → CellData → List ℕ
list_spelling n f (list_cell valid cs) = flag_bytes n valid ++ (u64_bytes (length (items cs)) ++ joined_by f (items cs))
list_spelling n f c = flag_bytes n false

abbrev pub struct_spelling : (List CellData → List ℕ) → CellData → List ℕ
struct_spelling f (struct_cell valid cs) = bit valid ∷ f (items cs)
struct_spelling f c = 0 ∷ []

abbrev pub nothing_spelled : List CellData → List ℕ
nothing_spelled cs = []

abbrev pub first_spelled : (CellData → List ℕ) → (List CellData → List ℕ) → List CellData → List ℕ
first_spelled f g [] = []
first_spelled f g (c ∷ cs) = f c ++ g cs

-- a cell's bytes
abbrev mutual
  pub spelling : Ty → CellData → List ℕ
  spelling (boolean n) = bool_spelling n
  spelling (primitive p n) = primitive_spelling p n
  spelling (utf8 n) = text_spelling n
  spelling (binary n) = text_spelling n
  spelling (list t n) = list_spelling n (spelling t)
  spelling (struct fs n) = struct_spelling (fields_spelling fs)
  spelling (extension tag t) = spelling t

  pub fields_spelling : Tys → List CellData → List ℕ
  fields_spelling no_fields = nothing_spelled
  fields_spelling (field name t fs) = first_spelled (spelling t) (fields_spelling fs)
