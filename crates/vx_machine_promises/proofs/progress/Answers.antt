use Rattle.vx_machine_promises.proofs.Standing.{something_is_ready, work_falls, work_is_shared}
use Rattle.vx_machine_promises.proofs.progress.Goals as goal

pub returns-clause-ready : goal.returns-clause-ready
returns-clause-ready c = something_is_ready

pub returns-clause-falls : goal.returns-clause-falls
returns-clause-falls c = work_falls

pub returns-clause-shared : goal.returns-clause-shared
returns-clause-shared c = work_is_shared
