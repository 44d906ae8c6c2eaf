use Rattle.vx_machine_ids.proofs.MoveLaws.{moved_none, moved_then, moved_beside, owned_now}
use Rattle.vx_machine_ids.proofs.moves.Goals as goal

pub returns-clause-nothing : goal.returns-clause-nothing
returns-clause-nothing c = moved_none

pub returns-clause-then : goal.returns-clause-then
returns-clause-then c = moved_then

pub returns-clause-beside : goal.returns-clause-beside
returns-clause-beside c = moved_beside

pub returns-clause-owned : goal.returns-clause-owned
returns-clause-owned c = owned_now
