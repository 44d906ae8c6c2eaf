use Rattle.vx_compressor_spec.proofs.ImageLaws.{images_keep_cells}
use Rattle.vx_compressor_spec.proofs.images_keep_cells.Goals as goal

pub returns : goal.returns
returns c = images_keep_cells
