use Rattle.vx_machine_task.specs.Sizes.{task_count}
use Rattle.vx_machine_task.proofs.task.Task.+into_layout.Given as goal

abbrev pub decreases-into_layout : goal.decreases-into_layout
decreases-into_layout l = task_count l.self
