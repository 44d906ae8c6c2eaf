-- Rows put together of columns.
use Rattle.std.specs.Prelude.{ℕ, zero, suc, Bool, true, List, [], ◌∷◌, ◌++◌, map}
use Rattle.std.specs.Global.{Vec}
use Rattle.vx_model.specs.declared.cell.Cell.{Cell}
use Rattle.vx_model.specs.Words.{head_or, tail}
use Rattle.vx_model.specs.CellData.{CellData, null_cell, struct_cell, trees_of}
use Rattle.vx_model.specs.TreeView.{tree}

-- a vector of cells as contracts see it
abbrev pub trees_in : Vec Cell → List CellData
trees_in v = map tree v.items

-- a cell behind each list, as far as there are cells
abbrev pub pushed_each : List (List CellData) → List CellData → List (List CellData)
pushed_each [] cs = []
pushed_each (r ∷ rs) [] = r ∷ rs
pushed_each (r ∷ rs) (c ∷ cs) = (r ++ c ∷ []) ∷ pushed_each rs cs

-- row i has item i of each column
abbrev pub rows_across : ℕ → List (List CellData) → List (List CellData)
rows_across zero columns = []
rows_across (suc n) columns = map (head_or null_cell) columns ∷ rows_across n (map tail columns)

abbrev pub structs : List (List CellData) → List Bool → List CellData
structs [] valid = []
structs (r ∷ rs) valid = struct_cell (head_or true valid) (trees_of r) ∷ structs rs (tail valid)
