-- A `Cell` and a `Value` as contracts see them.
use Rattle.vx_model.specs.declared.cell.Cell.{Cell, fold-Cell}
use Rattle.vx_model.specs.declared.cell.Cell.TheOpen.{Cell-F}
use Rattle.vx_model.specs.declared.row_value.Value.{Value, fold-Value}
use Rattle.vx_model.specs.declared.row_value.Value.TheOpen.{Value-F}
use Rattle.vx_model.specs.CellData.{CellData, null_cell, bool_cell, int_cell, text_cell, bytes_cell, list_cell, struct_cell, trees_of}
use Rattle.vx_model.specs.ValueData.{ValueData, null_value, bool_value, int_value, text_value, bytes_value, list_value, struct_value, vals_of}

abbrev pub cell_step : Cell-F CellData → CellData
cell_step Cell-F.Null = null_cell
cell_step (Cell-F.Bool b) = bool_cell b
cell_step (Cell-F.Int i) = int_cell i
cell_step (Cell-F.Utf8 s) = text_cell s
cell_step (Cell-F.Binary s) = bytes_cell s
cell_step (Cell-F.List valid cs) = list_cell valid (trees_of cs.items)
cell_step (Cell-F.Struct valid cs) = struct_cell valid (trees_of cs.items)

abbrev pub tree : Cell → CellData
tree = fold-Cell CellData cell_step

abbrev pub value_step : Value-F ValueData → ValueData
value_step Value-F.Null = null_value
value_step (Value-F.Bool b) = bool_value b
value_step (Value-F.Int i) = int_value i
value_step (Value-F.Utf8 s) = text_value s
value_step (Value-F.Binary s) = bytes_value s
value_step (Value-F.List vs) = list_value (vals_of vs.items)
value_step (Value-F.Struct vs) = struct_value (vals_of vs.items)

abbrev pub val : Value → ValueData
val = fold-Value ValueData value_step
