use Rattle.std.proofs.Common.{◌+◌, ◌*◌, ◌<◌, ◌≤◌, ◌≡◌, sym, subst, arith, rules, ◌∙◌, refl}
use Rattle.vx_sequence.specs.Universe.{Active}
use Rattle.vx_machine_ids.specs.Stock.{Stock, none, both}
use Rattle.vx_machine_ids.specs.Balance.{Owned, Moved}
use Rattle.vx_machine_ids.proofs.MoveLaws.{owned_now, moved_none, moved_then, moved_drop_first}
use Rattle.vx_machine_ids.proofs.Lists.{pop_owned, pop_moved, pop_rest}
use Rattle.vx_machine_task.specs.Sizes.{task_count, count_of_all}
use Rattle.vx_machine_task.specs.Stocks.{head_stock, task_stock, tasks_stock}
use Rattle.vx_machine_task.specs.declared.task.Task.{out-Task}
use Rattle.vx_machine_task.proofs.TaskParts.{task_stock_out, task_count_out, popped_count}
use Rattle.vx_sink.specs.ContextView.{counted}
use Rattle.vx_machine_task.specs.Ledger.{head_reserved, task_reserved, tasks_reserved}
use Rattle.vx_machine_task.proofs.ReservedSteps.{task_reserved_out, tasks_push}
use Rattle.vx_machine_task.proofs.task.+refuse.Goals as goal

pub Task::refuse-refuse_all-requires : goal.Task::refuse-refuse_all-requires
Task::refuse-refuse_all-requires g t c κs within =
    let u : Active = g.O.Order.active c.args.order.now in
    let v : Active = g.O.Order.active c.give_up_head.new.order in
    let h : Stock = head_stock (out-Task c.args.self).head in
    let k : Stock = tasks_stock (out-Task c.args.self).kids.items in
    let o : Owned u (both h k) = subst (λ s. Owned u s) (task_stock_out c.args.self) c.requires.owned in
    let m : Owned v k = owned_now u v (both h k) k o (moved_drop_first u v h k o c.give_up_head.ensures.moved) in
    let n : task_count c.args.self ≡ 1 + count_of_all (out-Task c.args.self).kids.items = task_count_out c.args.self in
    let falls : 2 * count_of_all (out-Task c.args.self).kids.items + 1 < 2 * task_count c.args.self = omega (arith, n) in
    let parts : task_reserved c.args.self ≡ head_reserved (out-Task c.args.self).head + tasks_reserved (out-Task c.args.self).kids.items = task_reserved_out c.args.self in
    let few : tasks_reserved (out-Task c.args.self).kids.items ≤ counted c.give_up_head.new.ctx = omega (arith, parts, c.requires.reserved, c.give_up_head.ensures.tracked) in
    search (rules, arith, m, falls, few)

pub Task::refuse-give_up_head-requires-clause-reserved : goal.Task::refuse-give_up_head-requires-clause-reserved
Task::refuse-give_up_head-requires-clause-reserved g t c = omega (arith, task_reserved_out c.args.self, c.requires.reserved)

pub Task::refuse-returns-clause-tracked : goal.Task::refuse-returns-clause-tracked
Task::refuse-returns-clause-tracked g t c = omega (arith, task_reserved_out c.args.self, c.give_up_head.ensures.tracked, c.refuse_all.ensures.tracked)

pub Task::refuse-returns-clause-moved : goal.Task::refuse-returns-clause-moved
Task::refuse-returns-clause-moved g t c =
    let u : Active = g.O.Order.active c.args.order.now in
    let v : Active = g.O.Order.active c.give_up_head.new.order in
    let w : Active = g.O.Order.active c.refuse_all.new.order in
    let h : Stock = head_stock (out-Task c.args.self).head in
    let k : Stock = tasks_stock (out-Task c.args.self).kids.items in
    let o : Owned u (both h k) = subst (λ s. Owned u s) (task_stock_out c.args.self) c.requires.owned in
    subst (λ s. Moved u w s none) (sym (task_stock_out c.args.self)) (moved_then u v w (both h k) k none (moved_drop_first u v h k o c.give_up_head.ensures.moved) c.refuse_all.ensures.moved)

pub refuse_all-kids-init : goal.refuse_all-kids-init
refuse_all-kids-init g t c = record {
  owned = c.requires.owned;
  moved = moved_none (g.O.Order.active c.args.order.now) (tasks_stock c.args.kids.items) c.requires.owned;
  reserved = c.requires.reserved;
  tracked = refl;
  context = refl;
  fewer = omega arith;
  outlet = refl;
  sink = refl;
}

pub refuse_all-refuse-requires : goal.refuse_all-refuse-requires
refuse_all-refuse-requires g t c κs within =
    let u : Active = g.O.Order.active c.kids.order in
    let o : Owned u (task_stock c.in-Some.kid) = pop_owned task_stock u c.kids.kids.items c.pop.new.self.items c.in-Some.kid c.in-Some.ensures.items c.kids.invariant.owned in
    let n : count_of_all c.kids.kids.items ≡ count_of_all c.pop.new.self.items + task_count c.in-Some.kid = popped_count c.kids.kids.items c.pop.new.self.items c.in-Some.kid c.in-Some.ensures.items in
    let f : count_of_all c.kids.kids.items ≤ count_of_all c.args.kids.items = c.kids.invariant.fewer in
    let falls : 2 * task_count c.in-Some.kid < 2 * count_of_all c.args.kids.items + 1 = omega (arith, n, f) in
    let few : task_reserved c.in-Some.kid ≤ counted c.kids.ctx = omega (arith, tasks_push c.kids.kids.items c.pop.new.self.items c.in-Some.kid c.in-Some.ensures.items, c.kids.invariant.reserved) in
    search (rules, arith, o, falls, few)

pub refuse_all-kids-preserved : goal.refuse_all-kids-preserved
refuse_all-kids-preserved g t c =
    let u : Active = g.O.Order.active c.kids.order in
    let v : Active = g.O.Order.active c.refuse.new.order in
    let n : count_of_all c.kids.kids.items ≡ count_of_all c.pop.new.self.items + task_count c.in-Some.kid = popped_count c.kids.kids.items c.pop.new.self.items c.in-Some.kid c.in-Some.ensures.items in
    let f : count_of_all c.kids.kids.items ≤ count_of_all c.args.kids.items = c.kids.invariant.fewer in
    record {
      owned = pop_rest task_stock u c.kids.kids.items c.pop.new.self.items c.in-Some.kid c.in-Some.ensures.items c.kids.invariant.owned v c.refuse.ensures.moved;
      moved = moved_then (g.O.Order.active c.args.order.now) u v (tasks_stock c.args.kids.items) (tasks_stock c.kids.kids.items) (tasks_stock c.pop.new.self.items) c.kids.invariant.moved
          (pop_moved task_stock u c.kids.kids.items c.pop.new.self.items c.in-Some.kid c.in-Some.ensures.items c.kids.invariant.owned v c.refuse.ensures.moved);
      fewer = omega (arith, n, f);
      reserved = omega (arith, tasks_push c.kids.kids.items c.pop.new.self.items c.in-Some.kid c.in-Some.ensures.items, c.kids.invariant.reserved, c.refuse.ensures.tracked);
      tracked = omega (arith, tasks_push c.kids.kids.items c.pop.new.self.items c.in-Some.kid c.in-Some.ensures.items, c.kids.invariant.tracked, c.refuse.ensures.tracked);
      context = c.refuse.ensures.context ∙ c.kids.invariant.context;
      outlet = c.refuse.ensures.outlet ∙ c.kids.invariant.outlet;
      sink = c.refuse.ensures.sink ∙ c.kids.invariant.sink;
    }
