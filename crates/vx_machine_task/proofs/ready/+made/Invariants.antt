use Rattle.std.proofs.Common.{◌≡◌, ◌≤◌, ◌+◌, ◌*◌, length, take}
use Rattle.vx_machine_task.specs.Ready.{all_made, kids_of}
use Rattle.vx_machine_task.specs.Sizes.{task_count, count_of_all}
use Rattle.vx_machine_task.proofs.ready.+made.Given as goal

abbrev pub invariant-all_made-kids : goal.invariant-all_made-kids
invariant-all_made-kids l = record {
  within : l.i ≤ length l.kids;
  same : all_made (kids_of (take l.i l.kids)) ≡ all_made (kids_of l.kids);
}

abbrev pub decreases-all_made-kids : goal.decreases-all_made-kids
decreases-all_made-kids l = l.i

abbrev pub decreases-is_made : goal.decreases-is_made
decreases-is_made l = 2 * task_count l.kid.now

abbrev pub decreases-all_made : goal.decreases-all_made
decreases-all_made l = 2 * count_of_all l.kids.now + 1
