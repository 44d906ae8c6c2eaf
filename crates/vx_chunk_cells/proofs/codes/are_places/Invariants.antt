use Rattle.std.proofs.Common.{◌≡◌, map, drop}
use Rattle.vx_model.specs.Words.{all_by}
use Rattle.vx_model.specs.TreeView.{tree}
use Rattle.vx_model.specs.ChunkData.{is_code}
use Rattle.vx_chunk_cells.proofs.codes.are_places.Given as goal

abbrev pub invariant-loop-cell : goal.invariant-loop-cell
invariant-loop-cell l = all_by (is_code l.count) (map tree (drop l.cell-index l.cells)) ≡ all_by (is_code l.count) (map tree l.cells)
