use Rattle.std.proofs.Common.{◌≡◌, ◌≤◌, ◌+◌, ◌*◌, ◌++◌, true, map, reverse, vec_len}
use Rattle.vx_layout_tree.specs.LayoutView.{layout_data}
use Rattle.vx_sink.specs.ContextView.{counted}
use Rattle.vx_machine_state.specs.Acts.{layouts_in}
use Rattle.vx_machine_ids.specs.Balance.{Owned, Moved}
use Rattle.vx_machine_node.specs.Ledger.{Paid, told_by}
use Rattle.vx_machine_task.specs.Ledger.{tasks_reserved}
use Rattle.vx_machine_task.specs.Ready.{all_made, kids_of}
use Rattle.vx_machine_task.specs.Sizes.{task_count, count_of_all}
use Rattle.vx_machine_task.specs.Stocks.{tasks_stock}
use Rattle.vx_machine_task.specs.View.{row}
use Rattle.vx_machine_acts.proofs.join.+gather.Given as goal

abbrev pub decreases-add_layout : goal.decreases-add_layout
decreases-add_layout g l = 2 * task_count l.kid

abbrev pub decreases-add_layouts : goal.decreases-add_layouts
decreases-add_layouts g l = 2 * count_of_all l.kids.now.items + 1

abbrev pub invariant-add_layouts-kids : goal.invariant-add_layouts-kids
invariant-add_layouts-kids g l = record {
  owned : Owned (g.O.Order.active l.order) (tasks_stock l.kids.items);
  moved : Moved (g.O.Order.active l.initial.order) (g.O.Order.active l.order) (tasks_stock l.initial.kids.items) (tasks_stock l.kids.items);
  reserved : tasks_reserved l.kids.items ≤ counted l.ctx;
  tracked : Paid l.initial.ctx l.ctx (tasks_reserved l.initial.kids.items) (tasks_reserved l.kids.items);
  context : told_by l.ctx ≡ told_by l.initial.ctx;
  made : all_made (kids_of l.kids.items) ≡ true;
  seen : layouts_in (row l.kids.items) ++ map layout_data (reverse l.layouts.items) ≡ layouts_in (row l.initial.kids.items) ++ map layout_data (reverse l.initial.layouts.items);
  fewer : count_of_all l.kids.items ≤ count_of_all l.initial.kids.items;
  outlet : g.O.Order.outlet l.order ≡ g.O.Order.outlet l.initial.order;
  sink : g.O.Order.sink l.order ≡ g.O.Order.sink l.initial.order;
}

abbrev pub decreases-add_layouts-kids : goal.decreases-add_layouts-kids
decreases-add_layouts-kids g l = vec_len l.kids
