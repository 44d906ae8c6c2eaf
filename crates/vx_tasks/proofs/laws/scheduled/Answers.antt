use Rattle.vx_tasks.specs.State.Counts.{Zeros}
use Rattle.vx_tasks.proofs.Steps.{at_start}
use Rattle.vx_tasks.proofs.Runs.{run_leads, run_stops, run_exact}
use Rattle.vx_tasks.proofs.laws.scheduled.Goals as goal

pub returns-clause-leads : goal.returns-clause-leads
returns-clause-leads c = λ f picks n. run_leads f Zeros picks n

pub returns-clause-stops : goal.returns-clause-stops
returns-clause-stops c = λ f picks n rules h. run_stops f Zeros picks n rules (at_start f) h

pub returns-clause-whole : goal.returns-clause-whole
returns-clause-whole c = λ f picks rules none. run_exact f picks rules none
