use Rattle.vx_chunk.proofs.SliceLaws.{sliced_cells, sliced_type}
use Rattle.vx_chunk.proofs.node.Chunk.slice.Goals as goal

pub returns-clause-cells : goal.returns-clause-cells
returns-clause-cells c = rw (c.in_ok-cut.ensures) (sliced_cells c.args.self.now c.args.from c.args.to c.sound.ensures c.requires.order c.requires.within)

pub returns-clause-dtype : goal.returns-clause-dtype
returns-clause-dtype c = rw (c.in_ok-cut.ensures) (sliced_type c.args.self.now c.args.from c.args.to)
