-- The size of a cell that the type alone tells.
use Rattle.std.specs.Prelude.{ℕ, ◌+◌, Option, Some, None}
use Rattle.vx_model.specs.Numbers.{ptype_bytes}
use Rattle.vx_model.specs.Ty.{Ty, boolean, primitive, extension}
use Rattle.vx_model.specs.CellData.{null_byte}

-- bytes that each cell counts for, the null byte too, where all count for the same
abbrev pub element_size : Ty → Option ℕ
element_size (boolean n) = Some (1 + null_byte n)
element_size (primitive p n) = Some (ptype_bytes p + null_byte n)
element_size (extension tag t) = element_size t
element_size t = None
