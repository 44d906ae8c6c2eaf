use Rattle.vx_machine_turns.proofs.StartLaws.{start_faults_agree}
use Rattle.vx_machine_turns.proofs.start_faults_agree.Goals as goal

pub returns : goal.returns
returns c = start_faults_agree
