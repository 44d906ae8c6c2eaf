use Rattle.std.proofs.Common.{◌≡◌, ◌+◌, ◌<◌, true, length, ap, ◌∙◌, rules, arith}
use Rattle.vx_machine_task.specs.Ready.{is_done}
use Rattle.vx_machine_task.specs.Sizes.{task_count, count_of_all}
use Rattle.vx_machine_task.specs.declared.task.Task.{out-Task}
use Rattle.vx_machine_task.proofs.TaskParts.{task_count_out, popped_count}
use Rattle.vx_machine_task.proofs.ReadyViews.{passed_view}
use Rattle.vx_machine_task.proofs.Finishing.{done_parts, done_none, done_unreserved, only_child}
use Rattle.vx_machine_task.proofs.task.Task.+into_layout.Goals as goal

pub destroy_empty-requires : goal.destroy_empty-requires
destroy_empty-requires t c = (done_parts c.args.self c.requires).idle

pub destroy_empty-requires-2 : goal.destroy_empty-requires-2
destroy_empty-requires-2 t c = (done_parts c.args.self c.requires).empty

pub returns-in-Made-clause-free : goal.returns-in-Made-clause-free
returns-in-Made-clause-free t c = done_none c.args.self c.requires

pub returns-in-Some-clause-free : goal.returns-in-Some-clause-free
returns-in-Some-clause-free t c = done_none c.args.self c.requires

pub returns-in-Made-clause-unreserved : goal.returns-in-Made-clause-unreserved
returns-in-Made-clause-unreserved t c = done_unreserved c.args.self c.requires

pub returns-in-Some-clause-unreserved : goal.returns-in-Some-clause-unreserved
returns-in-Some-clause-unreserved t c = done_unreserved c.args.self c.requires

pub destroy_empty-requires-in-Some : goal.destroy_empty-requires-in-Some
destroy_empty-requires-in-Some t c =
    c.pop.new.self.ok.0 ∙ ap length (only_child c.args.self c.in-Some.kid c.pop.new.self.items c.requires c.in-Passing.is c.in-Some.ensures.items).0

pub into_layout-requires : goal.into_layout-requires
into_layout-requires t c =
    let d : is_done c.in-Some.kid ≡ true = (only_child c.args.self c.in-Some.kid c.pop.new.self.items c.requires c.in-Passing.is c.in-Some.ensures.items).1 in
    let n : count_of_all (out-Task c.args.self).kids.items ≡ count_of_all c.pop.new.self.items + task_count c.in-Some.kid = popped_count (out-Task c.args.self).kids.items c.pop.new.self.items c.in-Some.kid c.in-Some.ensures.items in
    let falls : task_count c.in-Some.kid < task_count c.args.self = omega (arith, n, task_count_out c.args.self) in
    search (rules, arith, d, falls)

pub returns-in-Some-clause-layout : goal.returns-in-Some-clause-layout
returns-in-Some-clause-layout t c =
    passed_view c.args.self c.in-Some.kid c.into_layout.result c.in-Passing.is (only_child c.args.self c.in-Some.kid c.pop.new.self.items c.requires c.in-Passing.is c.in-Some.ensures.items).2 c.into_layout.ensures.layout
