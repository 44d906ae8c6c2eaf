-- What lists and structs are made of, and such cells taken apart.
use Rattle.std.specs.Prelude.{ℕ, zero, suc, ◌==◌, ◌&&◌, Bool, true, false, List, [], ◌∷◌, length}
use Rattle.vx_model.specs.Words.{head_or, tail}
use Rattle.vx_model.specs.Ty.{Ty, Tys, list, struct, no_fields}
use Rattle.vx_model.specs.CellData.{CellData, struct_cell, items}
use Rattle.vx_chunk_cells.specs.Window.{last_of}

-- the fields of a struct type
abbrev pub struct_fields : Ty → Tys
struct_fields (struct fs n) = fs
struct_fields t = no_fields

-- the type of a list's elements
abbrev pub element_type : Ty → Ty
element_type (list t n) = t
element_type t = t

-- a flag a row, true where there are none
abbrev pub row_flags : ℕ → List Bool → List Bool
row_flags zero valid = []
row_flags (suc n) valid = head_or true valid ∷ row_flags n (tail valid)

-- a struct's cells, kept ones too
abbrev pub fields_of : CellData → List CellData
fields_of (struct_cell valid cs) = items cs
fields_of c = []

-- a struct of so many fields
abbrev pub has_width : ℕ → CellData → Bool
has_width n (struct_cell valid cs) = length (items cs) == n
has_width n c = false

-- offsets from 0 to so many elements
abbrev pub cover : ℕ → List ℕ → Bool
cover count os = (head_or 0 os == 0) && (last_of os == count)
