-- A cell that is lent, as the cell that it is.
use Rattle.std.specs.Prelude.{map}
use Rattle.vx_model.specs.CellData.{CellData, null_cell, bool_cell, int_cell, text_cell, bytes_cell, list_cell, struct_cell, trees_of}
use Rattle.vx_model.specs.TreeView.{tree}
use Rattle.vx_typed.specs.declared.lent.Lent.{Lent}
use Rattle.vx_typed.specs.declared.lent.Lent.TheVariants.{Null, Bool, Int, Utf8, Binary, List, Struct}

abbrev pub lent_cell : Lent → CellData
lent_cell Null = null_cell
lent_cell (Bool b) = bool_cell b
lent_cell (Int n) = int_cell n
lent_cell (Utf8 s) = text_cell s.now
lent_cell (Binary s) = bytes_cell s.now
lent_cell (List valid cs) = list_cell valid (trees_of (map tree cs.now))
lent_cell (Struct valid cs) = struct_cell valid (trees_of (map tree cs.now))
