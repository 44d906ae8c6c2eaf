use Rattle.std.proofs.Common.{◌+◌, ◌*◌, vec_len}
use Rattle.std.specs.FinMap as fin
use Rattle.vx_kept.specs.Kept.{GoingFrom}
use Rattle.vx_machine_task.specs.Sizes.{task_count, count_of_all}
use Rattle.vx_machine_task.specs.View.{row}
use Rattle.vx_machine_task.proofs.+counts.Given as goal

abbrev pub decreases-task::Task::count_ready : goal.decreases-task::Task::count_ready
decreases-task::Task::count_ready g l = 3 * task_count l.self.now

abbrev pub decreases-counts::count_kids : goal.decreases-counts::count_kids
decreases-counts::count_kids g l = 3 * count_of_all l.kids.now + 2

abbrev pub decreases-counts::count_kid : goal.decreases-counts::count_kid
decreases-counts::count_kid g l = 3 * count_of_all l.kids.now + 1

abbrev pub invariant-counts::count_kids-asked : goal.invariant-counts::count_kids-asked
invariant-counts::count_kids-asked g l = GoingFrom (fin.keys (g.O.Order.active l.order)) l.asked.items l.later.items 0 l.ready l.below.items (row l.kids)

abbrev pub decreases-counts::count_kids-asked : goal.decreases-counts::count_kids-asked
decreases-counts::count_kids-asked g l = vec_len l.asked
