use Rattle.vx_chunk.proofs.CellsFit.{cells_fit}
use Rattle.vx_chunk.proofs.node.Chunk.canon.Goals as goal

pub typed-requires : goal.typed-requires
typed-requires c = rw (c.in_ok-cells.ensures.cells, c.in_ok-dtype.ensures.cases, c.dtype.ensures) (cells_fit c.args.self.now c.sound.ensures)
