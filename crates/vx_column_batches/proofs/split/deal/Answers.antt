use Rattle.std.proofs.Common.{arith}
use Rattle.vx_column_batches.proofs.Deals.{deal_stopped}
use Rattle.vx_column_batches.proofs.split.deal.Goals as goal

pub returns-in-None : goal.returns-in-None
returns-in-None c =
    deal_stopped c.loop-column.column-items c.args.columns.now.items c.loop-column.column-index c.args.columns.now.len c.column-item.result c.loop-column.parts.rest.items _
    (omega (arith, c.deref_mut-column-items.ensures.len)) (omega (arith, c.in-None.ensures.cases.0, c.loop-column.parts.rest.ok.0)) c.loop-column.invariant
