use Rattle.std.proofs.Common.{arith}
use Rattle.vx_chunk_cells.proofs.Steps.{push_stopped}
use Rattle.vx_chunk_cells.proofs.structs.push_each.Goals as goal

pub returns-in-None : goal.returns-in-None
returns-in-None c =
    push_stopped c.loop-row.row-items c.args.rows.now.items c.loop-row.row-index c.args.rows.now.len c.row-item.result c.loop-row.cells.rest.items _
    (omega (arith, c.deref_mut-row-items.ensures.len)) (omega (arith, c.in-None.ensures.cases.0, c.loop-row.cells.rest.ok.0)) c.loop-row.invariant
