-- Reading cells from left to right. A reader gives a value and the bytes behind it, or nothing where there is none.
use Rattle.std.specs.Prelude.{ℕ, Bool, true, if◌then◌else◌, List, [], ◌∷◌, length, Option, Some, None, ◌==◌, ℤ, pos}
use Rattle.std.specs.Int.{w8, w16, w32, w64, from_le_bytes, cast_signed}
use Rattle.std.specs.Str.{is_utf8}
use Rattle.vx_byte_reader.specs.Fields as fields
use Rattle.vx_byte_reader.specs.Fields.{◌>>=◌, front_at, flag_at, many_at}
use Rattle.vx_model.specs.declared.ptype.PType.{PType}
use Rattle.vx_model.specs.declared.ptype.PType.TheVariants.{U8, U16, U32, U64, I8, I16, I32, I64}
use Rattle.vx_model.specs.Numbers.{ptype_bytes}
use Rattle.vx_model.specs.Ty.{Ty, Tys, boolean, primitive, utf8, binary, list, struct, extension, no_fields, field}
use Rattle.vx_model.specs.CellData.{CellData, null_cell, bool_cell, int_cell, text_cell, bytes_cell, list_cell, struct_cell, trees_of, flag_fits}

-- a length or a count
abbrev pub number_at : List ℕ → Option (ℕ × List ℕ)
number_at = fields.number_at w64

-- a length, and that many bytes
unfoldable pub blob_at : List ℕ → Option (List ℕ × List ℕ)
blob_at bytes = do
  n ← number_at bytes
  front_at n.0 n.1

-- the same of UTF-8
unfoldable pub text_at : List ℕ → Option (List ℕ × List ℕ)
text_at bytes = do
  s ← blob_at bytes
  if is_utf8 s.0 then Some s else None

-- two's complement, the lowest byte first
abbrev pub int_from : PType → List ℕ → ℤ
int_from U8 s = pos (from_le_bytes w8 s)
int_from U16 s = pos (from_le_bytes w16 s)
int_from U32 s = pos (from_le_bytes w32 s)
int_from U64 s = pos (from_le_bytes w64 s)
int_from I8 s = cast_signed w8 (from_le_bytes w8 s)
int_from I16 s = cast_signed w16 (from_le_bytes w16 s)
int_from I32 s = cast_signed w32 (from_le_bytes w32 s)
int_from I64 s = cast_signed w64 (from_le_bytes w64 s)

unfoldable pub int_at : PType → List ℕ → Option (ℤ × List ℕ)
int_at p bytes = do
  front ← front_at (ptype_bytes p) bytes
  Some (int_from p front.0, front.1)

-- ---- cells

-- a nullable type has a flag in front, which says valid; without a flag a cell is valid
unfoldable pub valid_at : Bool → List ℕ → Option (Bool × List ℕ)
valid_at n bytes = if n then flag_at bytes else Some (true, bytes)

unfoldable pub leaf_at : {A : Type 0} → Bool → (A → CellData) → (List ℕ → Option (A × List ℕ)) → List ℕ → Option (CellData × List ℕ)
leaf_at n make read bytes = do
  valid ← valid_at n bytes
  if valid.0 then (read valid.1 >>= λ x. Some (make x.0, x.1)) else Some (null_cell, valid.1)

unfoldable pub list_at : Bool → (List ℕ → Option (CellData × List ℕ)) → List ℕ → Option (CellData × List ℕ)
list_at n read bytes = do
  valid ← valid_at n bytes
  count ← number_at valid.1
  cells ← many_at read count.0 count.1
  Some (list_cell valid.0 (trees_of cells.0), cells.1)

-- the flag is always there, and false in a nullable type alone
unfoldable pub struct_at : Bool → (List ℕ → Option (List CellData × List ℕ)) → List ℕ → Option (CellData × List ℕ)
struct_at n read bytes = do
  valid ← flag_at bytes
  cells ← read valid.1
  if flag_fits valid.0 n then Some (struct_cell valid.0 (trees_of cells.0), cells.1) else None

unfoldable pub nothing_at : List ℕ → Option (List CellData × List ℕ)
nothing_at bytes = Some ([], bytes)

unfoldable pub first_at : (List ℕ → Option (CellData × List ℕ)) → (List ℕ → Option (List CellData × List ℕ)) → List ℕ → Option (List CellData × List ℕ)
first_at read others bytes = do
  first ← read bytes
  more ← others first.1
  Some (first.0 ∷ more.0, more.1)

-- a cell of the type
abbrev mutual
  pub cell_at : Ty → List ℕ → Option (CellData × List ℕ)
  cell_at (boolean n) = leaf_at n bool_cell flag_at
  cell_at (primitive p n) = leaf_at n int_cell (int_at p)
  cell_at (utf8 n) = leaf_at n text_cell text_at
  cell_at (binary n) = leaf_at n bytes_cell blob_at
  cell_at (list t n) = list_at n (cell_at t)
  cell_at (struct fs n) = struct_at n (fields_at fs)
  cell_at (extension tag t) = cell_at t

  pub fields_at : Tys → List ℕ → Option (List CellData × List ℕ)
  fields_at no_fields = nothing_at
  fields_at (field name t fs) = first_at (cell_at t) (fields_at fs)

-- so many cells of the type, and nothing behind them
unfoldable pub cells_at : Ty → ℕ → List ℕ → Option (List CellData)
cells_at t rows bytes = do
  cells ← many_at (cell_at t) rows bytes
  if length cells.1 == 0 then Some cells.0 else None

-- one cell of the type, and nothing behind it
unfoldable pub only_cell_at : Ty → List ℕ → Option CellData
only_cell_at t bytes = do
  cell ← cell_at t bytes
  if length cell.1 == 0 then Some cell.0 else None
