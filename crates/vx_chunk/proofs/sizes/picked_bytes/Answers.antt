use Rattle.std.proofs.Common.{◌≡◌, ◌-◌, ◌*◌, length, map, ◌∙◌}
use Rattle.std.proofs.lemmas.List.{length-map}
use Rattle.vx_model.specs.Words.{total_by}
use Rattle.vx_model.specs.CellData.{cell_size}
use Rattle.vx_model.specs.ChunkData.{piece_type, cells, picked}
use Rattle.vx_chunk_cells.specs.Window.{window}
use Rattle.vx_chunk_cells.proofs.Windows.{length-window}
use Rattle.vx_chunk_cells.proofs.SizeSteps.{total_same}
use Rattle.vx_column.specs.ColumnView.{column_cells}
use Rattle.vx_chunk.proofs.sizes.picked_bytes.Goals as goal

pub returns-in-Some : goal.returns-in-Some
returns-in-Some c =
    let t = piece_type c.args.values.now in
    let codes = window c.args.from c.args.to (column_cells c.args.codes.now) in
    let cs = map (picked (cells c.args.values.now)) codes in
    let same : total_by (cell_size t) cs ≡ length cs * c.in-Some.size = total_same (cell_size t) c.in-Some.size cs (rw c.dtype.ensures at c.in-Some.ensures.of_each) in
    let long : length cs ≡ c.args.to - c.args.from = length-map codes (picked (cells c.args.values.now)) ∙ length-window c.args.from c.args.to (column_cells c.args.codes.now) c.requires.within in
    cc
