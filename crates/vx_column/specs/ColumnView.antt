-- A column as the cells that it stands for.
use Rattle.std.specs.Prelude.{ℕ, nat_lt, Bool, true, false, List, map, pos, Option, Some, None}
use Rattle.vx_model.specs.CellData.{CellData, int_cell}
use Rattle.vx_model.specs.declared.ptype.PType.{PType}
use Rattle.vx_model.specs.declared.ptype.PType.TheVariants as types
use Rattle.vx_model.specs.Numbers.{ptype_bytes}
use Rattle.vx_model.specs.Ty.{Ty, boolean, primitive, utf8, binary, extension}
use Rattle.vx_model.specs.TreeView.{tree}
use Rattle.vx_column.specs.declared.leaves.AnyLeaves.{AnyLeaves}
use Rattle.vx_column.specs.declared.leaves.AnyLeaves.TheVariants.{Bool as Bools, U8, U16, U32, U64, I8, I16, I32, I64}
use Rattle.vx_column.specs.declared.column.Column.{Column}
use Rattle.vx_column.specs.declared.column.Column.TheVariants.{Leaves, Strings, Cells}

abbrev pub leaf_cells : AnyLeaves → List CellData
leaf_cells (Bools c) = c
leaf_cells (U8 c) = c
leaf_cells (U16 c) = c
leaf_cells (U32 c) = c
leaf_cells (U64 c) = c
leaf_cells (I8 c) = c
leaf_cells (I16 c) = c
leaf_cells (I32 c) = c
leaf_cells (I64 c) = c

-- the integer type, none of Bools
abbrev pub leaf_ptype : AnyLeaves → Option PType
leaf_ptype (Bools c) = None
leaf_ptype (U8 c) = Some types.U8
leaf_ptype (U16 c) = Some types.U16
leaf_ptype (U32 c) = Some types.U32
leaf_ptype (U64 c) = Some types.U64
leaf_ptype (I8 c) = Some types.I8
leaf_ptype (I16 c) = Some types.I16
leaf_ptype (I32 c) = Some types.I32
leaf_ptype (I64 c) = Some types.I64

-- the type of integers, or of Bools, nullable or not
abbrev pub leaf_type : Option PType → Bool → Ty
leaf_type None n = boolean n
leaf_type (Some p) n = primitive p n

-- bytes of a value
abbrev pub leaf_width : Option PType → ℕ
leaf_width None = 1
leaf_width (Some p) = ptype_bytes p

abbrev pub column_cells : Column → List CellData
column_cells (Leaves c) = leaf_cells c
column_cells (Strings c) = c
column_cells (Cells cs) = map tree cs.items

-- how rows are kept: as values of a type, as texts or bytes, as cells
pub data Form : Type 0 where
  leaves : Option PType → Form
  strings : Form
  cells : Form

abbrev pub column_form : Column → Form
column_form (Leaves c) = leaves (leaf_ptype c)
column_form (Strings c) = strings
column_form (Cells cs) = cells

-- the place that a code tells
abbrev pub place_of : CellData → Option ℕ
place_of (int_cell (pos n)) = Some n
place_of c = None

abbrev pub is_below : ℕ → Option ℕ → Bool
is_below count None = false
is_below count (Some n) = nat_lt n count

-- texts, bytes, and extensions of them
abbrev pub has_strings : Ty → Bool
has_strings (utf8 n) = true
has_strings (binary n) = true
has_strings (extension tag t) = has_strings t
has_strings t = false
