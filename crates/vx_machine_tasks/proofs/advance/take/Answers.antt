use Rattle.std.proofs.Common.{◌≡◌, refl, ap, sym, subst, arith}
use Rattle.vx_machine_ids.specs.Stock.{none, both, end_stock}
use Rattle.vx_machine_ids.specs.Balance.{Owned, Moved}
use Rattle.vx_machine_nodes.specs.Acting.{is_grouped, is_probe, is_cutting, taken, Took}
use Rattle.vx_machine_node.specs.Context.{setting_of}
use Rattle.vx_machine_node.specs.Ledger.{local_reserved}
use Rattle.vx_machine_node.specs.Stocks.{item_stock, dues_stock, local_stock, zoned_stock}
use Rattle.vx_machine_task.specs.Stocks.{tasks_stock}
use Rattle.vx_machine_acts.proofs.ActMoves.{take_chunked_owned, take_chunked_moved, take_columns_owned, take_columns_moved, take_flat_owned, take_flat_moved, take_nothing_owned, take_nothing_moved, take_group_owned, take_group_moved}
use Rattle.vx_machine_node.specs.declared.node.Local.TheVariants.{Chunked, Columns, Lists, Zoned, Pressing, AsIs}
use Rattle.vx_machine_node.specs.View.{item_of, todo_of, mind_of}
use Rattle.vx_machine_task.specs.View.{row}
use Rattle.vx_machine_acts.proofs.TakeShows.{chunked_by, chunked_why_by, columns_by, columns_why_by, taken_as, zones_by, flat_by, flat_why_by, flat_left}
use Rattle.vx_machine_acts.proofs.StopSteps.{chunk_stops, chunk_memory, group_done, group_stops}
use Rattle.vx_machine_nodes.proofs.ActCauses.{memory_may}
use Rattle.vx_machine_node.proofs.Fitting.{none_fit}
use Rattle.vx_machine_tasks.proofs.advance.take.Goals as goal

pub take_chunked-requires : goal.take_chunked-requires
take_chunked-requires g c =
    take_chunked_owned (g.O.Order.active c.args.order.now) (local_stock c.args.local.now) (dues_stock c.args.todo.now.items) (tasks_stock c.args.kids.now.items) (item_stock c.args.item) c.requires.owned
    (end_stock c.in-Chunked.eof) (ap local_stock c.in-Chunked.is)

pub returns-in-Chunked-clause-moved : goal.returns-in-Chunked-clause-moved
returns-in-Chunked-clause-moved g c =
    take_chunked_moved (g.O.Order.active c.args.order.now) (local_stock c.args.local.now) (dues_stock c.args.todo.now.items) (tasks_stock c.args.kids.now.items) (item_stock c.args.item) c.requires.owned
    (g.O.Order.active c.take_chunked.new.order) (end_stock c.in-Chunked.eof) (end_stock c.take_chunked.new.eof) (tasks_stock c.take_chunked.new.kids.items) (ap local_stock c.in-Chunked.is) c.take_chunked.ensures.moved

pub take_columns-requires : goal.take_columns-requires
take_columns-requires g c =
    take_columns_owned (g.O.Order.active c.args.order.now) (local_stock c.args.local.now) (dues_stock c.args.todo.now.items) (tasks_stock c.args.kids.now.items) (item_stock c.args.item) c.requires.owned

pub returns-in-Columns-clause-moved : goal.returns-in-Columns-clause-moved
returns-in-Columns-clause-moved g c =
    take_columns_moved (g.O.Order.active c.args.order.now) (local_stock c.args.local.now) (dues_stock c.args.todo.now.items) (tasks_stock c.args.kids.now.items) (item_stock c.args.item) c.requires.owned
    (g.O.Order.active c.take_columns.new.order) none (dues_stock c.take_columns.new.todo.items) (sym (ap local_stock c.in-Columns.is)) c.take_columns.ensures.moved

pub take_lists-requires : goal.take_lists-requires
take_lists-requires g c =
    take_columns_owned (g.O.Order.active c.args.order.now) (local_stock c.args.local.now) (dues_stock c.args.todo.now.items) (tasks_stock c.args.kids.now.items) (item_stock c.args.item) c.requires.owned

pub returns-in-Lists-clause-moved : goal.returns-in-Lists-clause-moved
returns-in-Lists-clause-moved g c =
    take_columns_moved (g.O.Order.active c.args.order.now) (local_stock c.args.local.now) (dues_stock c.args.todo.now.items) (tasks_stock c.args.kids.now.items) (item_stock c.args.item) c.requires.owned
    (g.O.Order.active c.take_lists.new.order) none (dues_stock c.take_lists.new.todo.items) (sym (ap local_stock c.in-Lists.is)) c.take_lists.ensures.moved

pub returns-in-Lists-clause-done : goal.returns-in-Lists-clause-done
returns-in-Lists-clause-done g c = λ idle.
    columns_by c.args.ctx.now c.args.name.now (row c.args.kids.now.items) c.args.item c.args.local.now (Lists c.in-Lists.node c.in-Lists.rows) c.in-Lists.is
    (Lists c.take_lists.new.node c.take_lists.new.rows) (todo_of c.take_lists.new.todo.items) (todo_of c.args.todo.now.items) c.take_lists.result c.take_lists.ensures.done

pub returns-in-Lists-clause-refused : goal.returns-in-Lists-clause-refused
returns-in-Lists-clause-refused g c = λ more.
    chunk_stops c.args.ctx.now c.args.name.now (row c.args.kids.now.items) c.args.item c.args.local.now c.take_lists.result
    (columns_why_by c.args.ctx.now c.args.name.now (row c.args.kids.now.items) c.args.item c.args.local.now (Lists c.in-Lists.node c.in-Lists.rows) c.in-Lists.is c.take_lists.result c.take_lists.ensures.refused)

pub take_flat-requires-clause-owned : goal.take_flat-requires-clause-owned
take_flat-requires-clause-owned g c =
    take_flat_owned (g.O.Order.active c.args.order.now) (local_stock c.args.local.now) (dues_stock c.args.todo.now.items) (tasks_stock c.args.kids.now.items) (item_stock c.args.item) c.requires.owned

pub returns-in_default-clause-moved : goal.returns-in_default-clause-moved
returns-in_default-clause-moved g c =
    take_flat_moved (g.O.Order.active c.args.order.now) (local_stock c.args.local.now) (dues_stock c.args.todo.now.items) (tasks_stock c.args.kids.now.items) (item_stock c.args.item) c.requires.owned
    (g.O.Order.active c.take_flat.new.order) (local_stock c.take_flat.new.local) c.take_flat.ensures.moved

pub returns-in-Chunked-clause-done : goal.returns-in-Chunked-clause-done
returns-in-Chunked-clause-done g c = λ idle.
    chunked_by c.args.ctx.now c.args.name.now (row c.args.kids.now.items) c.args.item c.args.local.now (Chunked c.in-Chunked.node c.in-Chunked.eof c.in-Chunked.rows) c.in-Chunked.is
    (Chunked c.in-Chunked.node c.take_chunked.new.eof c.take_chunked.new.rows) (todo_of c.args.todo.now.items) (row c.take_chunked.new.kids.items) c.take_chunked.result c.take_chunked.ensures.done

pub returns-in-Chunked-clause-refused : goal.returns-in-Chunked-clause-refused
returns-in-Chunked-clause-refused g c = λ more.
    chunk_stops c.args.ctx.now c.args.name.now (row c.args.kids.now.items) c.args.item c.args.local.now c.take_chunked.result
    (chunked_why_by c.args.ctx.now c.args.name.now (row c.args.kids.now.items) c.args.item c.args.local.now (Chunked c.in-Chunked.node c.in-Chunked.eof c.in-Chunked.rows) c.in-Chunked.is c.take_chunked.result c.take_chunked.ensures.refused)

pub returns-in-Columns-clause-done : goal.returns-in-Columns-clause-done
returns-in-Columns-clause-done g c = λ idle.
    columns_by c.args.ctx.now c.args.name.now (row c.args.kids.now.items) c.args.item c.args.local.now (Columns c.in-Columns.node c.in-Columns.rows) c.in-Columns.is
    (Columns c.in-Columns.node c.take_columns.new.rows) (todo_of c.take_columns.new.todo.items) (todo_of c.args.todo.now.items) c.take_columns.result c.take_columns.ensures.done

pub returns-in-Columns-clause-refused : goal.returns-in-Columns-clause-refused
returns-in-Columns-clause-refused g c = λ more.
    chunk_stops c.args.ctx.now c.args.name.now (row c.args.kids.now.items) c.args.item c.args.local.now c.take_columns.result
    (columns_why_by c.args.ctx.now c.args.name.now (row c.args.kids.now.items) c.args.item c.args.local.now (Columns c.in-Columns.node c.in-Columns.rows) c.in-Columns.is c.take_columns.result c.take_columns.ensures.refused)

pub returns-in_default-clause-done : goal.returns-in_default-clause-done
returns-in_default-clause-done g c = λ idle. flat_by c.args.ctx.now c.args.name.now (row c.args.kids.now.items) c.args.item c.args.local.now c.take_flat.new.local (todo_of c.args.todo.now.items) c.take_flat.result c.take_flat.ensures.done

pub returns-in_default-clause-refused : goal.returns-in_default-clause-refused
returns-in_default-clause-refused g c = λ more.
    chunk_stops c.args.ctx.now c.args.name.now (row c.args.kids.now.items) c.args.item c.args.local.now c.take_flat.result
    (flat_why_by c.args.ctx.now c.args.name.now (row c.args.kids.now.items) c.args.item c.args.local.now c.take_flat.result (c.take_flat.ensures.refused (flat_left c.args.local.now c.in_default.not-Grouped c.in_default.not-Chunked c.in_default.not-Columns c.in_default.not-Lists c.in_default.not-Zoned c.in_default.not-Pressing c.in_default.not-AsIs c.in_default.not-Probe c.in_default.not-Asking c.in_default.not-Runs more)))

pub returns-in-Grouped-clause-done : goal.returns-in-Grouped-clause-done
returns-in-Grouped-clause-done g c = λ idle.
    group_done c.args.ctx.now c.args.name.now (row c.args.kids.now.items) c.args.item c.args.local.now c.regroup.new.local (todo_of c.regroup.new.todo.items) (todo_of c.args.todo.now.items) c.regroup.result c.regroup.ensures.done

pub returns-in-Grouped-clause-refused : goal.returns-in-Grouped-clause-refused
returns-in-Grouped-clause-refused g c = λ more.
    group_stops c.args.ctx.now c.args.name.now (row c.args.kids.now.items) c.args.item c.args.local.now c.regroup.result c.regroup.ensures.refused

pub regroup-requires-clause-owned : goal.regroup-requires-clause-owned
regroup-requires-clause-owned g c =
    take_group_owned (g.O.Order.active c.args.order.now) (local_stock c.args.local.now) (dues_stock c.args.todo.now.items) (tasks_stock c.args.kids.now.items) (item_stock c.args.item) c.requires.owned

pub regroup-requires-clause-reserved : goal.regroup-requires-clause-reserved
regroup-requires-clause-reserved g c = omega (arith, c.requires.reserved)

pub regroup-requires-clause-grouped : goal.regroup-requires-clause-grouped
regroup-requires-clause-grouped g c = ap is_grouped c.in-Grouped.is

pub returns-in-Grouped-clause-moved : goal.returns-in-Grouped-clause-moved
returns-in-Grouped-clause-moved g c =
    take_group_moved (g.O.Order.active c.args.order.now) (local_stock c.args.local.now) (dues_stock c.args.todo.now.items) (tasks_stock c.args.kids.now.items) (item_stock c.args.item) c.requires.owned
    (g.O.Order.active c.regroup.new.order) (both (local_stock c.regroup.new.local) (dues_stock c.regroup.new.todo.items)) c.regroup.ensures.moved

-- ---- a zoned node

pub take_zoned-requires : goal.take_zoned-requires
take_zoned-requires g c =
    subst (λ s. Owned (g.O.Order.active c.args.order.now) (both (both s (dues_stock c.args.todo.now.items)) (item_stock c.args.item))) (ap local_stock c.in-Zoned.is)
    (take_group_owned (g.O.Order.active c.args.order.now) (local_stock c.args.local.now) (dues_stock c.args.todo.now.items) (tasks_stock c.args.kids.now.items) (item_stock c.args.item) c.requires.owned)

pub returns-in-Zoned-clause-moved : goal.returns-in-Zoned-clause-moved
returns-in-Zoned-clause-moved g c =
    let r = both (zoned_stock c.take_zoned.new.node) (dues_stock c.take_zoned.new.todo.items) in
    take_group_moved (g.O.Order.active c.args.order.now) (local_stock c.args.local.now) (dues_stock c.args.todo.now.items) (tasks_stock c.args.kids.now.items) (item_stock c.args.item) c.requires.owned (g.O.Order.active c.take_zoned.new.order) r
    (subst (λ s. Moved (g.O.Order.active c.args.order.now) (g.O.Order.active c.take_zoned.new.order) (both (both s (dues_stock c.args.todo.now.items)) (item_stock c.args.item)) r) (sym (ap local_stock c.in-Zoned.is)) c.take_zoned.ensures.moved)

pub returns-in-Zoned-clause-done : goal.returns-in-Zoned-clause-done
returns-in-Zoned-clause-done g c = λ idle.
    zones_by c.args.ctx.now c.args.name.now (row c.args.kids.now.items) c.args.item c.args.local.now (Zoned c.in-Zoned.node) c.in-Zoned.is (Zoned c.take_zoned.new.node) (todo_of c.take_zoned.new.todo.items) (todo_of c.args.todo.now.items) c.take_zoned.result c.take_zoned.ensures.done

pub returns-in-Zoned-clause-refused : goal.returns-in-Zoned-clause-refused
returns-in-Zoned-clause-refused g c = λ more.
    chunk_stops c.args.ctx.now c.args.name.now (row c.args.kids.now.items) c.args.item c.args.local.now c.take_zoned.result (columns_why_by c.args.ctx.now c.args.name.now (row c.args.kids.now.items) c.args.item c.args.local.now (Zoned c.in-Zoned.node) c.in-Zoned.is c.take_zoned.result c.take_zoned.ensures.refused)

pub returns-in-Zoned-clause-tracked : goal.returns-in-Zoned-clause-tracked
returns-in-Zoned-clause-tracked g c = let l : local_reserved c.args.local.now ≡ 0 = ap local_reserved c.in-Zoned.is in omega (arith, l, c.take_zoned.ensures.reserved)

-- ---- a compressing node, and its outlet

pub take_pressing-requires : goal.take_pressing-requires
take_pressing-requires g c = take_columns_owned (g.O.Order.active c.args.order.now) (local_stock c.args.local.now) (dues_stock c.args.todo.now.items) (tasks_stock c.args.kids.now.items) (item_stock c.args.item) c.requires.owned

pub returns-in-Pressing-clause-moved : goal.returns-in-Pressing-clause-moved
returns-in-Pressing-clause-moved g c =
    take_columns_moved (g.O.Order.active c.args.order.now) (local_stock c.args.local.now) (dues_stock c.args.todo.now.items) (tasks_stock c.args.kids.now.items) (item_stock c.args.item) c.requires.owned (g.O.Order.active c.take_pressing.new.order) none (dues_stock c.take_pressing.new.todo.items) (sym (ap local_stock c.in-Pressing.is)) c.take_pressing.ensures.moved

pub returns-in-Pressing-clause-done : goal.returns-in-Pressing-clause-done
returns-in-Pressing-clause-done g c = λ idle.
    columns_by c.args.ctx.now c.args.name.now (row c.args.kids.now.items) c.args.item c.args.local.now (Pressing c.in-Pressing.which) c.in-Pressing.is (Pressing c.in-Pressing.which) (todo_of c.take_pressing.new.todo.items) (todo_of c.args.todo.now.items) c.take_pressing.result c.take_pressing.ensures.done

pub returns-in-Pressing-clause-refused : goal.returns-in-Pressing-clause-refused
returns-in-Pressing-clause-refused g c = λ more. chunk_memory c.args.ctx.now c.args.name.now (row c.args.kids.now.items) c.args.item c.args.local.now c.take_pressing.result c.take_pressing.ensures.memory

pub returns-in-Pressing-clause-cause : goal.returns-in-Pressing-clause-cause
returns-in-Pressing-clause-cause g c = memory_may c.take_pressing.result c.take_pressing.ensures.memory

pub returns-in-Pressing-clause-tracked : goal.returns-in-Pressing-clause-tracked
returns-in-Pressing-clause-tracked g c = let l : local_reserved c.args.local.now ≡ 0 = ap local_reserved c.in-Pressing.is in omega (arith, l, c.take_pressing.ensures.reserved)

pub take_as_is-requires : goal.take_as_is-requires
take_as_is-requires g c = take_columns_owned (g.O.Order.active c.args.order.now) (local_stock c.args.local.now) (dues_stock c.args.todo.now.items) (tasks_stock c.args.kids.now.items) (item_stock c.args.item) c.requires.owned

pub returns-in-AsIs-clause-moved : goal.returns-in-AsIs-clause-moved
returns-in-AsIs-clause-moved g c =
    take_columns_moved (g.O.Order.active c.args.order.now) (local_stock c.args.local.now) (dues_stock c.args.todo.now.items) (tasks_stock c.args.kids.now.items) (item_stock c.args.item) c.requires.owned (g.O.Order.active c.take_as_is.new.order) (local_stock c.args.local.now) (dues_stock c.take_as_is.new.todo.items) refl c.take_as_is.ensures.moved

pub returns-in-AsIs-clause-done : goal.returns-in-AsIs-clause-done
returns-in-AsIs-clause-done g c = λ idle.
    taken_as c.args.ctx.now c.args.name.now (row c.args.kids.now.items) c.args.item c.args.local.now AsIs c.in-AsIs.is (todo_of c.take_as_is.new.todo.items) (todo_of c.args.todo.now.items) c.take_as_is.result c.take_as_is.ensures.done

pub returns-in-AsIs-clause-refused : goal.returns-in-AsIs-clause-refused
returns-in-AsIs-clause-refused g c = λ more. chunk_memory c.args.ctx.now c.args.name.now (row c.args.kids.now.items) c.args.item c.args.local.now c.take_as_is.result c.take_as_is.ensures.memory

pub returns-in-AsIs-clause-cause : goal.returns-in-AsIs-clause-cause
returns-in-AsIs-clause-cause g c = memory_may c.take_as_is.result c.take_as_is.ensures.memory

pub returns-in-AsIs-clause-tracked : goal.returns-in-AsIs-clause-tracked
returns-in-AsIs-clause-tracked g c = omega (arith, c.take_as_is.ensures.reserved)

-- ---- a dictionary node

pub ask_first-requires-clause-owned : goal.ask_first-requires-clause-owned
ask_first-requires-clause-owned g c = take_group_owned (g.O.Order.active c.args.order.now) (local_stock c.args.local.now) (dues_stock c.args.todo.now.items) (tasks_stock c.args.kids.now.items) (item_stock c.args.item) c.requires.owned

pub ask_first-requires-clause-probe : goal.ask_first-requires-clause-probe
ask_first-requires-clause-probe g c = ap is_probe c.in-Probe.is

pub returns-in-Probe-clause-moved : goal.returns-in-Probe-clause-moved
returns-in-Probe-clause-moved g c =
    take_group_moved (g.O.Order.active c.args.order.now) (local_stock c.args.local.now) (dues_stock c.args.todo.now.items) (tasks_stock c.args.kids.now.items) (item_stock c.args.item) c.requires.owned (g.O.Order.active c.ask_first.new.order) (both (local_stock c.ask_first.new.local) (dues_stock c.ask_first.new.todo.items)) c.ask_first.ensures.moved

pub returns-in-Probe-clause-done : goal.returns-in-Probe-clause-done
returns-in-Probe-clause-done g c = λ idle. group_done c.args.ctx.now c.args.name.now (row c.args.kids.now.items) c.args.item c.args.local.now c.ask_first.new.local (todo_of c.ask_first.new.todo.items) (todo_of c.args.todo.now.items) c.ask_first.result c.ask_first.ensures.done

pub returns-in-Probe-clause-refused : goal.returns-in-Probe-clause-refused
returns-in-Probe-clause-refused g c = λ more.
    chunk_stops c.args.ctx.now c.args.name.now (row c.args.kids.now.items) c.args.item c.args.local.now c.ask_first.result (columns_why_by c.args.ctx.now c.args.name.now (row c.args.kids.now.items) c.args.item c.args.local.now c.args.local.now refl c.ask_first.result c.ask_first.ensures.refused)

pub returns-in-Probe-clause-tracked : goal.returns-in-Probe-clause-tracked
returns-in-Probe-clause-tracked g c = omega (arith, c.ask_first.ensures.reserved, c.ask_first.ensures.unreserved.0, c.ask_first.ensures.unreserved.1)

pub give_up_item-requires : goal.give_up_item-requires
give_up_item-requires g c = take_nothing_owned (g.O.Order.active c.args.order.now) (local_stock c.args.local.now) (dues_stock c.args.todo.now.items) (tasks_stock c.args.kids.now.items) (item_stock c.args.item) c.requires.owned

pub returns-in-Asking-clause-moved : goal.returns-in-Asking-clause-moved
returns-in-Asking-clause-moved g c = take_nothing_moved (g.O.Order.active c.args.order.now) (local_stock c.args.local.now) (dues_stock c.args.todo.now.items) (tasks_stock c.args.kids.now.items) (item_stock c.args.item) c.requires.owned (g.O.Order.active c.give_up_item.new.order) c.give_up_item.ensures.moved

pub returns-in-Asking-clause-done : goal.returns-in-Asking-clause-done
returns-in-Asking-clause-done g c = λ idle image.
    subst (λ z. Took (taken (setting_of c.args.ctx.now image) c.args.name.now (row c.args.kids.now.items) (item_of c.args.item) (mind_of z)) (mind_of z) (todo_of c.args.todo.now.items) (todo_of c.args.todo.now.items) (row c.args.kids.now.items)) (sym c.in-Asking.is)
    (record { unrefused = refl; fits = refl; counted = none_fit; mind_is = refl; todo_is = refl; kids_are = refl })

pub cut_runs-requires-clause-owned : goal.cut_runs-requires-clause-owned
cut_runs-requires-clause-owned g c = take_group_owned (g.O.Order.active c.args.order.now) (local_stock c.args.local.now) (dues_stock c.args.todo.now.items) (tasks_stock c.args.kids.now.items) (item_stock c.args.item) c.requires.owned

pub cut_runs-requires-clause-cutting : goal.cut_runs-requires-clause-cutting
cut_runs-requires-clause-cutting g c = ap is_cutting c.in-Runs.is

pub returns-in-Runs-clause-moved : goal.returns-in-Runs-clause-moved
returns-in-Runs-clause-moved g c =
    take_group_moved (g.O.Order.active c.args.order.now) (local_stock c.args.local.now) (dues_stock c.args.todo.now.items) (tasks_stock c.args.kids.now.items) (item_stock c.args.item) c.requires.owned (g.O.Order.active c.cut_runs.new.order) (both (local_stock c.cut_runs.new.local) (dues_stock c.cut_runs.new.todo.items)) c.cut_runs.ensures.moved

pub returns-in-Runs-clause-done : goal.returns-in-Runs-clause-done
returns-in-Runs-clause-done g c = λ idle. group_done c.args.ctx.now c.args.name.now (row c.args.kids.now.items) c.args.item c.args.local.now c.cut_runs.new.local (todo_of c.cut_runs.new.todo.items) (todo_of c.args.todo.now.items) c.cut_runs.result (c.cut_runs.ensures.done idle)

pub returns-in-Runs-clause-refused : goal.returns-in-Runs-clause-refused
returns-in-Runs-clause-refused g c = λ more.
    chunk_stops c.args.ctx.now c.args.name.now (row c.args.kids.now.items) c.args.item c.args.local.now c.cut_runs.result (columns_why_by c.args.ctx.now c.args.name.now (row c.args.kids.now.items) c.args.item c.args.local.now c.args.local.now refl c.cut_runs.result c.cut_runs.ensures.refused)

pub returns-in-Runs-clause-tracked : goal.returns-in-Runs-clause-tracked
returns-in-Runs-clause-tracked g c = omega (arith, c.cut_runs.ensures.tracked, c.cut_runs.ensures.reserved, c.cut_runs.ensures.unreserved.0, c.cut_runs.ensures.unreserved.1)

-- ---- what is reserved

pub returns-in-Chunked-clause-tracked : goal.returns-in-Chunked-clause-tracked
returns-in-Chunked-clause-tracked g c = let l : local_reserved c.args.local.now ≡ 0 = ap local_reserved c.in-Chunked.is in omega (arith, l, c.take_chunked.ensures.tracked)

pub returns-in-Columns-clause-tracked : goal.returns-in-Columns-clause-tracked
returns-in-Columns-clause-tracked g c = let l : local_reserved c.args.local.now ≡ 0 = ap local_reserved c.in-Columns.is in omega (arith, l, c.take_columns.ensures.reserved)

pub returns-in-Lists-clause-tracked : goal.returns-in-Lists-clause-tracked
returns-in-Lists-clause-tracked g c = let l : local_reserved c.args.local.now ≡ 0 = ap local_reserved c.in-Lists.is in omega (arith, l, c.take_lists.ensures.reserved)

pub returns-in-Grouped-clause-tracked : goal.returns-in-Grouped-clause-tracked
returns-in-Grouped-clause-tracked g c = omega (arith, c.regroup.ensures.tracked)

pub take_flat-requires-clause-reserved : goal.take_flat-requires-clause-reserved
take_flat-requires-clause-reserved g c = omega (arith, c.requires.reserved)

pub returns-in_default-clause-tracked : goal.returns-in_default-clause-tracked
returns-in_default-clause-tracked g c = omega (arith, c.take_flat.ensures.tracked)
