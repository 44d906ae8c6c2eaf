use Rattle.vx_plan.proofs.SourceLaws.{start_fixed, start_stands, no_start}
use Rattle.vx_plan.proofs.start_faults_stand.Goals as goal

pub returns-clause-fixed : goal.returns-clause-fixed
returns-clause-fixed c = start_fixed

pub returns-clause-stands : goal.returns-clause-stands
returns-clause-stands c = start_stands

pub returns-clause-none : goal.returns-clause-none
returns-clause-none c = no_start
