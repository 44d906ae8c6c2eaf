use Rattle.std.proofs.Common.{map}
use Rattle.vx_model.specs.TyView.{ty}
use Rattle.vx_model.specs.TreeView.{tree}
use Rattle.vx_column.specs.ColumnView.{column_cells}
use Rattle.vx_table_compressor.proofs.ImageSteps.{chunk_fit}
use Rattle.vx_table_compressor.proofs.image.image.Goals as goal

pub lent_image-requires : goal.lent_image-requires
lent_image-requires c = chunk_fit c.args.chunk.now (ty c.dtype.result.now) (column_cells c.in-Some.column.now) c.sound.ensures c.dtype.ensures c.in-Some.ensures.cells

pub own_image-requires : goal.own_image-requires
own_image-requires c =
    chunk_fit c.args.chunk.now (ty c.dtype-in-None.result.now) (map tree c.in_ok-cells_of-in-None.field-0.items) c.sound.ensures c.dtype-in-None.ensures c.in_ok-cells_of-in-None.ensures
