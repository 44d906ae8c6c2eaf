use Rattle.std.proofs.Common.{◌+◌, length}
use Rattle.std.proofs.lemmas.Result.{err_from_is_err_and}
use Rattle.vx_model.specs.ChunkData.{cells}
use Rattle.vx_machine_nodes.proofs.zoned.record_chunk.Goals as goal

pub returns-in_err-zone-clause-refused : goal.returns-in_err-zone-clause-refused
returns-in_err-zone-clause-refused c =
    let p = err_from_is_err_and c.from_residual-in_err-zone.result c.from_residual-in_err-zone.ensures.1 in
    rw (p.1, p.2) (c.in_err-zone.ensures.refused (c.args.node.now.rows + length (cells c.args.chunk.now)))
