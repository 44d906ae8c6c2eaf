use Rattle.vx_machine_promises.proofs.Noting.{seen_is_first, seen_is_whole, all_steps, fewer_steps}
use Rattle.vx_machine_promises.proofs.traces.Goals as goal

pub returns-clause-first : goal.returns-clause-first
returns-clause-first c = seen_is_first

pub returns-clause-whole : goal.returns-clause-whole
returns-clause-whole c = seen_is_whole

pub returns-clause-all : goal.returns-clause-all
returns-clause-all c = all_steps

pub returns-clause-fewer : goal.returns-clause-fewer
returns-clause-fewer c = fewer_steps
