use Rattle.std.proofs.Common.{◌≡◌, ◌+◌, ◌*◌, ◌^◌, ◌<◌, drop}
use Rattle.vx_machine_task.specs.Ready.{ready_among, counted}
use Rattle.vx_machine_task.specs.Sizes.{task_count, count_of_all}
use Rattle.vx_machine_task.proofs.+ready.Given as goal

abbrev pub decreases-task::Task::ready : goal.decreases-task::Task::ready
decreases-task::Task::ready g l = 2 * task_count l.self.now

abbrev pub decreases-ready::ready_of : goal.decreases-ready::ready_of
decreases-ready::ready_of g l = 2 * count_of_all l.kids.now + 1

abbrev pub invariant-ready::ready_of-loop-kid : goal.invariant-ready::ready_of-loop-kid
invariant-ready::ready_of-loop-kid g l = record {
  sum : counted (l.ready + ready_among (g.O.Order.active l.order) (drop l.kid-index l.kids)) ≡ counted (ready_among (g.O.Order.active l.order) l.kids);
  few : l.ready < 2 ^ 64;
}
