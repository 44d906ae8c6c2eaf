use Rattle.std.specs.FinMap as fin
use Rattle.vx_kept.specs.Kept.{asked_of, ready_of, kids_of}
use Rattle.vx_kept.proofs.Asking.{fresh_knows}
use Rattle.vx_machine_ids.proofs.MoveLaws.{owned_right}
use Rattle.vx_machine_task.specs.Stocks.{task_stock}
use Rattle.vx_machine_task.specs.View.{row}
use Rattle.vx_machine_task.specs.declared.task.Task.{out-Task}
use Rattle.vx_machine.specs.Source.{phase_stock}
use Rattle.vx_machine.proofs.stepping.count_ready.Goals as goal

pub count_ready-requires-clause-owned : goal.count_ready-requires-clause-owned
count_ready-requires-clause-owned g c = owned_right (g.O.Order.active c.args.order.now) (phase_stock c.args.phase.now) (task_stock c.args.root.now) c.requires.owned

pub returns-clause-known : goal.returns-clause-known
returns-clause-known g c =
    let x = c.count_ready.new.counts in
    fresh_knows (fin.keys (g.O.Order.active c.args.order.now)) (asked_of x) 0 (ready_of x) (kids_of x) (row (out-Task c.args.root.now).kids.items) c.in-Ok.ensures.fresh

pub returns-then-below-clause-known : goal.returns-then-below-clause-known
returns-then-below-clause-known g c =
    let x = c.count_ready.new.counts in
    fresh_knows (fin.keys (g.O.Order.active c.args.order.now)) (asked_of x) 0 (ready_of x) (kids_of x) (row (out-Task c.args.root.now).kids.items) c.in-Ok.ensures.fresh
