use Rattle.std.proofs.Common.{◌+◌, ◌*◌}
use Rattle.vx_machine_task.specs.Sizes.{task_count, count_of_all}
use Rattle.vx_machine_tasks.proofs.steps.+step.Given as goal

abbrev pub decreases-step : goal.decreases-step
decreases-step g l = 2 * task_count l.task.now

abbrev pub decreases-step_kids : goal.decreases-step_kids
decreases-step_kids g l = 2 * count_of_all l.kids.now + 1
