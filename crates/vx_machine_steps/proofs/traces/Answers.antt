use Rattle.vx_machine_steps.proofs.Noted.{notes_agree, notes_grow, notes_end}
use Rattle.vx_machine_steps.proofs.traces.Goals as goal

pub returns-clause-agree : goal.returns-clause-agree
returns-clause-agree c = notes_agree

pub returns-clause-grow : goal.returns-clause-grow
returns-clause-grow c = notes_grow

pub returns-clause-whole : goal.returns-clause-whole
returns-clause-whole c = notes_end
