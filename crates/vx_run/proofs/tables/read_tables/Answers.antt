use Rattle.std.proofs.Common.{[]}
use Rattle.vx_run.proofs.tables.read_tables.Goals as goal

pub returns : goal.returns
returns c = c.in_ok-push_tables.ensures [] (rw c.new-tables.ensures.items tt)
