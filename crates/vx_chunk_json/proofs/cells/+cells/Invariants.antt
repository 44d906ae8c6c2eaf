use Rattle.std.proofs.Common.{◌≡◌, drop, map}
use Rattle.serde_json.specs.View.{items_view}
use Rattle.vx_model.specs.Ty.{tys_of}
use Rattle.vx_model.specs.TyView.{ty, field_ty}
use Rattle.vx_model.specs.TreeView.{tree}
use Rattle.vx_json.specs.Lists.{each}
use Rattle.vx_chunk_json.specs.Cells.{cell_of, field_cells}
use Rattle.vx_json.proofs.Items.{with_front}
use Rattle.vx_chunk_json.proofs.CellSteps.{rest_at}
use Rattle.vx_chunk_json.proofs.cells.+cells.Given as goal

abbrev pub invariant-read_cells-loop-value : goal.invariant-read_cells-loop-value
invariant-read_cells-loop-value l = with_front (map tree l.cells.items) (each (cell_of (ty l.dtype)) (items_view (drop l.value-index l.values))) ≡ each (cell_of (ty l.dtype)) (items_view l.values)

abbrev pub invariant-read_fields-loop-i : goal.invariant-read_fields-loop-i
invariant-read_fields-loop-i l = with_front (map tree l.cells.items) (rest_at l.fields l.values l.i) ≡ field_cells (tys_of (map field_ty l.fields)) (items_view l.values)
