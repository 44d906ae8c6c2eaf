use Rattle.std.proofs.Common.{refl}
use Rattle.vx_machine_state.specs.Acts.{shut_desk}
use Rattle.vx_machine_task.specs.View.{desk_of}
use Rattle.vx_machine_task.specs.declared.task.Task.{out-Task}
use Rattle.vx_machine_task.proofs.PaidSteps.{head_same}
use Rattle.vx_machine_task.proofs.ViewParts.{head_row}
use Rattle.vx_machine_task.proofs.task.Task.shut.Goals as goal

pub returns-clause-shows : goal.returns-clause-shows
returns-clause-shows c = λ r. head_row _ c.args.self.now (shut_desk (desk_of (out-Task c.args.self.now).head)) r refl refl

pub returns-clause-reserved : goal.returns-clause-reserved
returns-clause-reserved c = head_same _ c.args.self.now refl refl
