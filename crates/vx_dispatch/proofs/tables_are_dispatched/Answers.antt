use Rattle.vx_dispatch.proofs.DispatchLaws.{tables_are_dispatched}
use Rattle.vx_dispatch.proofs.tables_are_dispatched.Goals as goal

pub returns : goal.returns
returns c = tables_are_dispatched
