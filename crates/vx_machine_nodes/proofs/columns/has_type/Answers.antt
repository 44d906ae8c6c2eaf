use Rattle.vx_model.specs.ChunkData.{piece_type}
use Rattle.vx_machine_nodes.proofs.TypeSteps.{type_told}
use Rattle.vx_machine_nodes.proofs.columns.has_type.Goals as goal

pub returns : goal.returns
returns c = type_told c.dtype.result.now c.args.dtype.now (piece_type c.args.chunk.now) c.eq.result c.dtype.ensures c.eq.ensures
