use Rattle.std.proofs.Common.{rules, ◌≡◌, ◌+◌, ◌*◌, ◌<◌, ◌≤◌, ◌++◌, true, map, reverse, vec_len, refl, sym, ap, subst, ◌∙◌, arith}
use Rattle.std.specs.Prelude.{OnOk}
use Rattle.std.proofs.lemmas.Result.{IfOk-weaker}
use Rattle.vx_sequence.specs.Universe.{Active}
use Rattle.vx_layout_tree.specs.LayoutView.{layout_data}
use Rattle.vx_sink.specs.ContextView.{counted}
use Rattle.vx_machine_ids.specs.Stock.{none}
use Rattle.vx_machine_ids.specs.Balance.{Owned}
use Rattle.vx_machine_ids.proofs.MoveLaws.{moved_none, moved_then, owned_now}
use Rattle.vx_machine_ids.proofs.Lists.{pop_owned, pop_moved, pop_rest}
use Rattle.vx_machine_state.specs.Acts.{layouts_in}
use Rattle.vx_machine_node.specs.Ledger.{local_reserved}
use Rattle.vx_machine_node.specs.Stocks.{local_stock}
use Rattle.vx_machine_task.specs.Ledger.{task_reserved, tasks_reserved}
use Rattle.vx_machine_task.specs.Ready.{made_of, all_made, kids_of}
use Rattle.vx_machine_task.specs.Sizes.{task_count, count_of_all}
use Rattle.vx_machine_task.specs.Stocks.{task_stock, tasks_stock}
use Rattle.vx_machine_task.specs.View.{row}
use Rattle.vx_machine_task.specs.declared.task.Task.{out-Task}
use Rattle.vx_machine_task.proofs.TaskParts.{task_count_out, popped_count}
use Rattle.vx_machine_task.proofs.Readiness.{made_front, made_popped, made_kids, not_made}
use Rattle.vx_machine_acts.proofs.GatherSteps.{todo_owned, inbox_owned, below_owned, below_moved}
use Rattle.vx_machine_task.proofs.ReservedSteps.{task_reserved_out, tasks_push}
use Rattle.vx_machine_task.proofs.RowSteps.{layouts_more, layouts_end, layouts_made, layouts_passed}
use Rattle.vx_machine_acts.proofs.join.+gather.Goals as goal

-- ---- of one

pub add_layout-give_up_dues-requires-clause-owned : goal.add_layout-give_up_dues-requires-clause-owned
add_layout-give_up_dues-requires-clause-owned g t c = todo_owned (g.O.Order.active c.args.order.now) c.args.kid c.requires.owned

pub add_layout-give_up_dues-requires-clause-reserved : goal.add_layout-give_up_dues-requires-clause-reserved
add_layout-give_up_dues-requires-clause-reserved g t c = omega (arith, task_reserved_out c.args.kid, c.requires.reserved)

pub add_layout-give_up_items-requires : goal.add_layout-give_up_items-requires
add_layout-give_up_items-requires g t c = inbox_owned (g.O.Order.active c.args.order.now) c.args.kid c.requires.owned (g.O.Order.active c.give_up_dues.new.order) c.give_up_dues.ensures.moved

pub add_layout-refuse_all-requires-clause-owned : goal.add_layout-refuse_all-requires-clause-owned
add_layout-refuse_all-requires-clause-owned g t c =
    below_owned (g.O.Order.active c.args.order.now) c.args.kid c.requires.owned (g.O.Order.active c.give_up_dues.new.order) c.give_up_dues.ensures.moved
    (g.O.Order.active c.give_up_items.new.order) c.give_up_items.ensures.moved (ap local_stock c.in-Made.is)

pub add_layout-refuse_all-requires-clause-reserved : goal.add_layout-refuse_all-requires-clause-reserved
add_layout-refuse_all-requires-clause-reserved g t c = omega (arith, task_reserved_out c.args.kid, c.requires.reserved, c.give_up_dues.ensures.tracked)

pub add_layout-returns-in-Made-clause-layouts : goal.add_layout-returns-in-Made-clause-layouts
add_layout-returns-in-Made-clause-layouts g t c =
    IfOk-weaker c.add_one.result _ _ (λ x h. layouts_made c.args.kid c.in-Made.layout c.args.layouts.now.items c.add_one.new.layouts.items c.in-Made.is h) c.add_one.ensures.added

pub add_layout-returns-in-Made-clause-moved : goal.add_layout-returns-in-Made-clause-moved
add_layout-returns-in-Made-clause-moved g t c =
    below_moved (g.O.Order.active c.args.order.now) c.args.kid c.requires.owned (g.O.Order.active c.give_up_dues.new.order) c.give_up_dues.ensures.moved
    (g.O.Order.active c.give_up_items.new.order) c.give_up_items.ensures.moved (ap local_stock c.in-Made.is) (g.O.Order.active c.refuse_all.new.order) none c.refuse_all.ensures.moved

pub add_layout-returns-in-Made-clause-tracked : goal.add_layout-returns-in-Made-clause-tracked
add_layout-returns-in-Made-clause-tracked g t c =
    let l : local_reserved (out-Task c.args.kid).head.local ≡ 0 = ap local_reserved c.in-Made.is in
    omega (arith, l, task_reserved_out c.args.kid, c.give_up_dues.ensures.tracked, c.refuse_all.ensures.tracked)

pub add_layout-add_layouts-added-requires : goal.add_layout-add_layouts-added-requires
add_layout-add_layouts-added-requires g t c κs within =
    let w : Active = g.O.Order.active c.give_up_items.new.order in
    let o : Owned w (tasks_stock (out-Task c.args.kid).kids.items) =
    below_owned (g.O.Order.active c.args.order.now) c.args.kid c.requires.owned (g.O.Order.active c.give_up_dues.new.order) c.give_up_dues.ensures.moved w c.give_up_items.ensures.moved (ap local_stock c.in-Passing.is) in
    let r : tasks_reserved (out-Task c.args.kid).kids.items ≤ counted c.give_up_dues.new.ctx = omega (arith, task_reserved_out c.args.kid, c.requires.reserved, c.give_up_dues.ensures.tracked) in
    let m : all_made (kids_of (out-Task c.args.kid).kids.items) ≡ true = made_kids c.args.kid c.requires.made c.in-Passing.is in
    let falls : 2 * count_of_all (out-Task c.args.kid).kids.items + 1 < 2 * task_count c.args.kid = omega (arith, task_count_out c.args.kid) in
    search (rules, arith, o, r, m, falls)

pub add_layout-refuse_all-requires-in-Passing-clause-owned : goal.add_layout-refuse_all-requires-in-Passing-clause-owned
add_layout-refuse_all-requires-in-Passing-clause-owned g t c =
    let w : Active = g.O.Order.active c.give_up_items.new.order in
    let x : Active = g.O.Order.active c.add_layouts-added.new.order in
    owned_now w x (tasks_stock (out-Task c.args.kid).kids.items) (tasks_stock c.add_layouts-added.new.kids.items)
    (below_owned (g.O.Order.active c.args.order.now) c.args.kid c.requires.owned (g.O.Order.active c.give_up_dues.new.order) c.give_up_dues.ensures.moved w c.give_up_items.ensures.moved (ap local_stock c.in-Passing.is))
    c.add_layouts-added.ensures.moved

pub add_layout-refuse_all-requires-in-Passing-clause-reserved : goal.add_layout-refuse_all-requires-in-Passing-clause-reserved
add_layout-refuse_all-requires-in-Passing-clause-reserved g t c = omega (arith, task_reserved_out c.args.kid, c.requires.reserved, c.give_up_dues.ensures.tracked, c.add_layouts-added.ensures.tracked)

pub add_layout-returns-in-Passing-clause-layouts : goal.add_layout-returns-in-Passing-clause-layouts
add_layout-returns-in-Passing-clause-layouts g t c =
    subst (λ z. OnOk c.add_layouts-added.result (map layout_data (reverse c.add_layouts-added.new.layouts.items) ≡ z ++ map layout_data (reverse c.args.layouts.now.items)))
    (sym (layouts_passed c.args.kid c.in-Passing.is)) c.add_layouts-added.ensures.layouts

pub add_layout-returns-in-Passing-clause-moved : goal.add_layout-returns-in-Passing-clause-moved
add_layout-returns-in-Passing-clause-moved g t c =
    let w : Active = g.O.Order.active c.give_up_items.new.order in
    let x : Active = g.O.Order.active c.add_layouts-added.new.order in
    let y : Active = g.O.Order.active c.refuse_all-in-Passing.new.order in
    below_moved (g.O.Order.active c.args.order.now) c.args.kid c.requires.owned (g.O.Order.active c.give_up_dues.new.order) c.give_up_dues.ensures.moved w c.give_up_items.ensures.moved (ap local_stock c.in-Passing.is) y none
    (moved_then w x y (tasks_stock (out-Task c.args.kid).kids.items) (tasks_stock c.add_layouts-added.new.kids.items) none c.add_layouts-added.ensures.moved c.refuse_all-in-Passing.ensures.moved)

pub add_layout-returns-in-Passing-clause-tracked : goal.add_layout-returns-in-Passing-clause-tracked
add_layout-returns-in-Passing-clause-tracked g t c =
    let l : local_reserved (out-Task c.args.kid).head.local ≡ 0 = ap local_reserved c.in-Passing.is in
    omega (arith, l, task_reserved_out c.args.kid, c.give_up_dues.ensures.tracked, c.add_layouts-added.ensures.tracked, c.refuse_all-in-Passing.ensures.tracked)

pub add_layout-unreachable-requires : goal.add_layout-unreachable-requires
add_layout-unreachable-requires g t c = not_made c.args.kid c.requires.made c.in_default.not-Made c.in_default.not-Passing

-- ---- of several

pub add_layouts-kids-init : goal.add_layouts-kids-init
add_layouts-kids-init g t c = record {
  owned = c.requires.owned;
  moved = moved_none (g.O.Order.active c.args.order.now) (tasks_stock c.args.kids.now.items) c.requires.owned;
  reserved = c.requires.reserved;
  tracked = refl;
  context = refl;
  made = c.requires.made;
  seen = refl;
  fewer = omega arith;
  outlet = refl;
  sink = refl;
}

pub add_layouts-add_layout-requires : goal.add_layouts-add_layout-requires
add_layouts-add_layout-requires g t c κs within =
    let u : Active = g.O.Order.active c.kids.order in
    let o : Owned u (task_stock c.in-Some.kid) = pop_owned task_stock u c.kids.kids.items c.pop.new.self.items c.in-Some.kid c.in-Some.ensures.items c.kids.invariant.owned in
    let r : task_reserved c.in-Some.kid ≤ counted c.kids.ctx = omega (arith, tasks_push c.kids.kids.items c.pop.new.self.items c.in-Some.kid c.in-Some.ensures.items, c.kids.invariant.reserved) in
    let m : made_of c.in-Some.kid ≡ true = made_popped c.kids.kids.items c.pop.new.self.items c.in-Some.kid c.in-Some.ensures.items c.kids.invariant.made in
    let n : count_of_all c.kids.kids.items ≡ count_of_all c.pop.new.self.items + task_count c.in-Some.kid = popped_count c.kids.kids.items c.pop.new.self.items c.in-Some.kid c.in-Some.ensures.items in
    let f : count_of_all c.kids.kids.items ≤ count_of_all c.args.kids.now.items = c.kids.invariant.fewer in
    let falls : 2 * task_count c.in-Some.kid < 2 * count_of_all c.args.kids.now.items + 1 = omega (arith, n, f) in
    search (rules, arith, o, r, m, falls)

pub add_layouts-kids-preserved : goal.add_layouts-kids-preserved
add_layouts-kids-preserved g t c =
    let u : Active = g.O.Order.active c.kids.order in
    let v : Active = g.O.Order.active c.add_layout.new.order in
    let n : count_of_all c.kids.kids.items ≡ count_of_all c.pop.new.self.items + task_count c.in-Some.kid = popped_count c.kids.kids.items c.pop.new.self.items c.in-Some.kid c.in-Some.ensures.items in
    let f : count_of_all c.kids.kids.items ≤ count_of_all c.args.kids.now.items = c.kids.invariant.fewer in
    let p : tasks_reserved c.kids.kids.items ≡ tasks_reserved c.pop.new.self.items + task_reserved c.in-Some.kid = tasks_push c.kids.kids.items c.pop.new.self.items c.in-Some.kid c.in-Some.ensures.items in
    record {
      owned = pop_rest task_stock u c.kids.kids.items c.pop.new.self.items c.in-Some.kid c.in-Some.ensures.items c.kids.invariant.owned v c.add_layout.ensures.moved;
      moved = moved_then (g.O.Order.active c.args.order.now) u v (tasks_stock c.args.kids.now.items) (tasks_stock c.kids.kids.items) (tasks_stock c.pop.new.self.items) c.kids.invariant.moved
          (pop_moved task_stock u c.kids.kids.items c.pop.new.self.items c.in-Some.kid c.in-Some.ensures.items c.kids.invariant.owned v c.add_layout.ensures.moved);
      reserved = omega (arith, p, c.kids.invariant.reserved, c.add_layout.ensures.tracked);
      tracked = omega (arith, p, c.kids.invariant.tracked, c.add_layout.ensures.tracked);
      context = c.add_layout.ensures.context ∙ c.kids.invariant.context;
      made = made_front c.kids.kids.items c.pop.new.self.items c.in-Some.kid c.in-Some.ensures.items c.kids.invariant.made;
      seen = layouts_more (layouts_in (row c.args.kids.now.items) ++ map layout_data (reverse c.args.layouts.now.items)) c.kids.kids.items c.pop.new.self.items c.in-Some.kid c.kids.layouts.items c.add_layout.new.layouts.items
          c.in-Some.ensures.items c.in_ok-add_layout.ensures.layouts c.kids.invariant.seen;
      fewer = omega (arith, n, f);
      outlet = c.add_layout.ensures.outlet ∙ c.kids.invariant.outlet;
      sink = c.add_layout.ensures.sink ∙ c.kids.invariant.sink;
    }

pub add_layouts-returns-in_err-add_layout-clause-moved : goal.add_layouts-returns-in_err-add_layout-clause-moved
add_layouts-returns-in_err-add_layout-clause-moved g t c =
    let u : Active = g.O.Order.active c.kids.order in
    let v : Active = g.O.Order.active c.add_layout.new.order in
    moved_then (g.O.Order.active c.args.order.now) u v (tasks_stock c.args.kids.now.items) (tasks_stock c.kids.kids.items) (tasks_stock c.pop.new.self.items) c.kids.invariant.moved
    (pop_moved task_stock u c.kids.kids.items c.pop.new.self.items c.in-Some.kid c.in-Some.ensures.items c.kids.invariant.owned v c.add_layout.ensures.moved)

pub add_layouts-returns-in_err-add_layout-clause-tracked : goal.add_layouts-returns-in_err-add_layout-clause-tracked
add_layouts-returns-in_err-add_layout-clause-tracked g t c =
    let p : tasks_reserved c.kids.kids.items ≡ tasks_reserved c.pop.new.self.items + task_reserved c.in-Some.kid = tasks_push c.kids.kids.items c.pop.new.self.items c.in-Some.kid c.in-Some.ensures.items in
    omega (arith, p, c.kids.invariant.tracked, c.add_layout.ensures.tracked)

pub add_layouts-returns-clause-layouts : goal.add_layouts-returns-clause-layouts
add_layouts-returns-clause-layouts g t c =
    let z : vec_len c.kids.kids ≡ 0 = search (rules, arith) in
    layouts_end (layouts_in (row c.args.kids.now.items) ++ map layout_data (reverse c.args.layouts.now.items)) c.kids.kids.items c.kids.layouts.items (sym c.kids.kids.ok.0 ∙ z) c.kids.invariant.seen
