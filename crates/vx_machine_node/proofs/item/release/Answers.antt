use Rattle.vx_machine_node.proofs.LedgerSteps.{told_same}
use Rattle.vx_machine_node.proofs.item.release.Goals as goal

pub returns-in-Some-clause-context : goal.returns-in-Some-clause-context
returns-in-Some-clause-context c =
    told_same c.args.ctx.now c.release_buffered_bytes.new.self c.release_buffered_bytes.ensures.listed c.release_buffered_bytes.ensures.allowed c.release_buffered_bytes.ensures.marked
