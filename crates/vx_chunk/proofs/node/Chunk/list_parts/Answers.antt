use Rattle.vx_model.specs.ChunkData.{piece_type, cells}
use Rattle.vx_chunk.proofs.CellsFit.{cells_fit}
use Rattle.vx_chunk.proofs.ElementSteps.{elements_fit}
use Rattle.vx_chunk.proofs.node.Chunk.list_parts.Goals as goal

pub typed-requires : goal.typed-requires
typed-requires c =
    let p = c.args.self.now in
    rw (c.in_ok-push_lists_apart.ensures.elements, c.in_ok-elements.ensures.items, c.in_ok-dtype.ensures.cases, c.items_of.ensures, c.dtype.ensures) (elements_fit (piece_type p) (cells p) c.requires (cells_fit p c.sound.ensures))
