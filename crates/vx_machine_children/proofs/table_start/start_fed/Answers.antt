use Rattle.std.proofs.Common.{◌≡◌, ◌+◌, [], ◌∷◌, ◌++◌, false, sym, ap, subst, ◌∙◌, arith}
use Rattle.std.specs.Prelude.{IsTrue}
use Rattle.std.specs.Arc.{arc_value}
use Rattle.std.proofs.lemmas.Result.{err_from_is_err_and}
use Rattle.vx_path.specs.Path.{under}
use Rattle.vx_model.specs.ChunkData.{piece_type}
use Rattle.vx_model.specs.TyView.{ty}
use Rattle.vx_strategy.specs.StrategyView.{strategy_data}
use Rattle.vx_strategy_spec.specs.StrategyData.{StrategyData}
use Rattle.vx_sequence.specs.Universe.{Active}
use Rattle.vx_machine_ids.specs.Stock.{Stock, none, both, end_stock}
use Rattle.vx_machine_ids.specs.Balance.{Moved}
use Rattle.vx_machine_turns.specs.Starts.{start_fault}
use Rattle.vx_machine_state.specs.Start.{first_indices}
use Rattle.vx_sink.specs.ContextView.{allowed_in}
use Rattle.vx_machine_node.specs.Stocks.{item_stock}
use Rattle.vx_machine_node.specs.View.{form_at, form_of, item_of}
use Rattle.vx_machine_start.proofs.StartCauses.{memory_start, start_may}
use Rattle.vx_machine_task.specs.Ledger.{task_reserved, tasks_reserved}
use Rattle.vx_machine_start.specs.Starting.{Started, FormRefused}
use Rattle.vx_machine_task.specs.Stocks.{task_stock, tasks_stock}
use Rattle.vx_machine_task.proofs.ReservedSteps.{tasks_push}
use Rattle.vx_machine_start.proofs.StartRows.{started_none}
use Rattle.vx_machine_start.proofs.StartShows.{memory_refused}
use Rattle.vx_machine_children.proofs.TableStarts.{fed_pointer, fed_item, fed_alone, fed_owned, fed_none, left_item, unstarted, left_pointer, given_up, table_started, table_refused, table_row}
use Rattle.vx_machine_children.proofs.table_start.start_fed.Goals as goal

-- the child

pub start_task-requires : goal.start_task-requires
start_task-requires g c =
    let u : Active = g.O.Order.active c.args.order.now in
    record { owned = fed_pointer u u u (end_stock c.args.eof) (item_stock c.args.item) c.args.kids.now.items c.requires.owned }

pub fed-requires-clause-owned : goal.fed-requires-clause-owned
fed-requires-clause-owned g c =
    let v : Active = g.O.Order.active c.start_task.new.order in
    fed_owned (g.O.Order.active c.args.order.now) v v (end_stock c.args.eof) (item_stock c.args.item) c.args.kids.now.items c.requires.owned (task_stock c.in-Ok-start_task.kid) c.in-Ok-start_task.ensures.moved

-- which has reserved nothing

pub fed-requires-clause-reserved : goal.fed-requires-clause-reserved
fed-requires-clause-reserved g c =
    omega (arith, started_none (allowed_in c.args.ctx.now) (form_of c.strategy.result.now (arc_value c.in-Ok.dtype)) false c.in-Ok.name c.args.eof c.in-Ok-start_task.kid c.in-Ok-start_task.ensures.shows)

pub returns-in_ok-kid-in-Ok-start_task-clause-moved : goal.returns-in_ok-kid-in-Ok-start_task-clause-moved
returns-in_ok-kid-in-Ok-start_task-clause-moved g c =
    let kid = c.in_ok-kid-in-Ok-start_task.kid in
    fed_alone (g.O.Order.active c.args.order.now) (g.O.Order.active c.start_task.new.order) (g.O.Order.active c.fed.new.order) (end_stock c.args.eof) (item_stock c.args.item) c.args.kids.now.items c.requires.owned
    c.push_reserved.new.self.items c.in-Ok-start_task.kid kid c.in-Ok-start_task.ensures.moved c.in_ok-kid-in-Ok-start_task.ensures.moved (c.push_reserved.ensures.items ∙ ap (λ z. z ++ (kid ∷ [])) c.table_parts.ensures.kids)

pub returns-in_ok-kid-in-Ok-start_task-clause-tracked : goal.returns-in_ok-kid-in-Ok-start_task-clause-tracked
returns-in_ok-kid-in-Ok-start_task-clause-tracked g c =
    let kid = c.in_ok-kid-in-Ok-start_task.kid in
    let n : task_reserved c.in-Ok-start_task.kid ≡ 0 = started_none (allowed_in c.args.ctx.now) (form_of c.strategy.result.now (arc_value c.in-Ok.dtype)) false c.in-Ok.name c.args.eof c.in-Ok-start_task.kid c.in-Ok-start_task.ensures.shows in
    let p : tasks_reserved c.push_reserved.new.self.items ≡ tasks_reserved c.args.kids.now.items + task_reserved kid =
    tasks_push c.push_reserved.new.self.items c.args.kids.now.items kid (c.push_reserved.ensures.items ∙ ap (λ z. z ++ (kid ∷ [])) c.table_parts.ensures.kids) in
    omega (arith, n, p, c.in_ok-kid-in-Ok-start_task.ensures.tracked)

pub returns-in_ok-kid-in-Ok-start_task-clause-allowed : goal.returns-in_ok-kid-in-Ok-start_task-clause-allowed
returns-in_ok-kid-in-Ok-start_task-clause-allowed g c =
    (table_started (allowed_in c.args.ctx.now) (strategy_data c.strategy.result.now) c.args.stats.now.item (ty (arc_value c.in-Ok.dtype)) (piece_type c.args.item.chunk) c.in-Ok.name (under c.args.name.now 1) c.args.eof c.in-Ok-start_task.kid
    c.strategy.ensures.same c.in-Ok.ensures.dtype c.in-Ok.ensures.name c.in-Ok-start_task.ensures.shows).allowed

pub returns-in_ok-kid-in-Ok-start_task-clause-fit : goal.returns-in_ok-kid-in-Ok-start_task-clause-fit
returns-in_ok-kid-in-Ok-start_task-clause-fit g c =
    (table_started (allowed_in c.args.ctx.now) (strategy_data c.strategy.result.now) c.args.stats.now.item (ty (arc_value c.in-Ok.dtype)) (piece_type c.args.item.chunk) c.in-Ok.name (under c.args.name.now 1) c.args.eof c.in-Ok-start_task.kid
    c.strategy.ensures.same c.in-Ok.ensures.dtype c.in-Ok.ensures.name c.in-Ok-start_task.ensures.shows).counted

pub returns-in_ok-kid-in-Ok-start_task-clause-kids : goal.returns-in_ok-kid-in-Ok-start_task-clause-kids
returns-in_ok-kid-in-Ok-start_task-clause-kids g c =
    let kid = c.in_ok-kid-in-Ok-start_task.kid in
    table_row (allowed_in c.args.ctx.now) (form_at c.args.stats.now.item (piece_type c.args.item.chunk)) (under c.args.name.now 1) c.args.eof c.in-Ok-start_task.kid kid (item_of c.args.item) c.args.kids.now.items c.push_reserved.new.self.items
    (table_started (allowed_in c.args.ctx.now) (strategy_data c.strategy.result.now) c.args.stats.now.item (ty (arc_value c.in-Ok.dtype)) (piece_type c.args.item.chunk) c.in-Ok.name (under c.args.name.now 1) c.args.eof c.in-Ok-start_task.kid
    c.strategy.ensures.same c.in-Ok.ensures.dtype c.in-Ok.ensures.name c.in-Ok-start_task.ensures.shows)
    c.in_ok-kid-in-Ok-start_task.ensures.fed (c.push_reserved.ensures.items ∙ ap (λ z. z ++ (kid ∷ [])) c.table_parts.ensures.kids)

-- it takes no item

pub returns-in_err-kid-in-Ok-start_task-clause-moved : goal.returns-in_err-kid-in-Ok-start_task-clause-moved
returns-in_err-kid-in-Ok-start_task-clause-moved g c =
    let u : Active = g.O.Order.active c.args.order.now in
    let w : Active = g.O.Order.active c.fed.new.order in
    let s : Stock = both (both (tasks_stock c.args.kids.now.items) (item_stock c.args.item)) (end_stock c.args.eof) in
    subst (λ z. Moved u w s (tasks_stock z)) (sym c.table_parts.ensures.kids)
    (fed_none u (g.O.Order.active c.start_task.new.order) w (end_stock c.args.eof) (item_stock c.args.item) c.args.kids.now.items c.requires.owned (task_stock c.in-Ok-start_task.kid) c.in-Ok-start_task.ensures.moved
    c.in_err-kid-in-Ok-start_task.ensures.moved)

pub returns-in_err-kid-in-Ok-start_task-clause-tracked : goal.returns-in_err-kid-in-Ok-start_task-clause-tracked
returns-in_err-kid-in-Ok-start_task-clause-tracked g c =
    let n : task_reserved c.in-Ok-start_task.kid ≡ 0 = started_none (allowed_in c.args.ctx.now) (form_of c.strategy.result.now (arc_value c.in-Ok.dtype)) false c.in-Ok.name c.args.eof c.in-Ok-start_task.kid c.in-Ok-start_task.ensures.shows in
    let k : tasks_reserved c.table_parts.new.kids.items ≡ tasks_reserved c.args.kids.now.items = ap tasks_reserved c.table_parts.ensures.kids in
    omega (arith, n, k, c.in_err-kid-in-Ok-start_task.ensures.tracked)

-- it isn't started

pub give_up_item-requires : goal.give_up_item-requires
give_up_item-requires g c =
    let v : Active = g.O.Order.active c.start_task.new.order in
    left_item (g.O.Order.active c.args.order.now) v v (end_stock c.args.eof) (item_stock c.args.item) c.args.kids.now.items c.requires.owned c.in-Err-start_task.ensures.moved

pub returns-in-Err-start_task-clause-moved : goal.returns-in-Err-start_task-clause-moved
returns-in-Err-start_task-clause-moved g c =
    let u : Active = g.O.Order.active c.args.order.now in
    let w : Active = g.O.Order.active c.give_up_item.new.order in
    let s : Stock = both (both (tasks_stock c.args.kids.now.items) (item_stock c.args.item)) (end_stock c.args.eof) in
    subst (λ z. Moved u w s (tasks_stock z)) (sym c.table_parts.ensures.kids)
    (unstarted u (g.O.Order.active c.start_task.new.order) w (end_stock c.args.eof) (item_stock c.args.item) c.args.kids.now.items c.requires.owned c.in-Err-start_task.ensures.moved c.give_up_item.ensures.moved)

pub returns-in-Err-start_task-clause-tracked : goal.returns-in-Err-start_task-clause-tracked
returns-in-Err-start_task-clause-tracked g c =
    let k : tasks_reserved c.table_parts.new.kids.items ≡ tasks_reserved c.args.kids.now.items = ap tasks_reserved c.table_parts.ensures.kids in
    omega (arith, k)

pub returns-in-Err-start_task-clause-refused : goal.returns-in-Err-start_task-clause-refused
returns-in-Err-start_task-clause-refused g c =
    table_refused (allowed_in c.args.ctx.now) (strategy_data c.strategy.result.now) c.args.stats.now.item (ty (arc_value c.in-Ok.dtype)) (piece_type c.args.item.chunk) c.args.eof c.in-Err-start_task.error
    c.strategy.ensures.same c.in-Ok.ensures.dtype c.in-Err-start_task.ensures.refused

pub returns-in-Err-start_task-clause-cause : goal.returns-in-Err-start_task-clause-cause
returns-in-Err-start_task-clause-cause g c = start_may c.in-Err-start_task.error c.in-Err-start_task.ensures.cause

-- there is no memory for it

pub give_up_item-requires-in-Err : goal.give_up_item-requires-in-Err
give_up_item-requires-in-Err g c =
    let u : Active = g.O.Order.active c.args.order.now in
    fed_item u u u (end_stock c.args.eof) (item_stock c.args.item) c.args.kids.now.items c.requires.owned

pub give_up_pointer-requires : goal.give_up_pointer-requires
give_up_pointer-requires g c =
    let v : Active = g.O.Order.active c.give_up_item-in-Err.new.order in
    left_pointer (g.O.Order.active c.args.order.now) v v (end_stock c.args.eof) (item_stock c.args.item) c.args.kids.now.items c.requires.owned c.give_up_item-in-Err.ensures.moved

pub returns-in-Err-clause-moved : goal.returns-in-Err-clause-moved
returns-in-Err-clause-moved g c =
    let u : Active = g.O.Order.active c.args.order.now in
    let w : Active = g.O.Order.active c.give_up_pointer.new.order in
    let s : Stock = both (both (tasks_stock c.args.kids.now.items) (item_stock c.args.item)) (end_stock c.args.eof) in
    subst (λ z. Moved u w s (tasks_stock z)) (sym c.table_parts.ensures.kids)
    (given_up u (g.O.Order.active c.give_up_item-in-Err.new.order) w (end_stock c.args.eof) (item_stock c.args.item) c.args.kids.now.items c.requires.owned c.give_up_item-in-Err.ensures.moved c.give_up_pointer.ensures.moved)

pub returns-in-Err-clause-tracked : goal.returns-in-Err-clause-tracked
returns-in-Err-clause-tracked g c =
    let k : tasks_reserved c.table_parts.new.kids.items ≡ tasks_reserved c.args.kids.now.items = ap tasks_reserved c.table_parts.ensures.kids in
    omega (arith, k)

pub returns-in-Err-clause-refused : goal.returns-in-Err-clause-refused
returns-in-Err-clause-refused g c =
    let f = form_at c.args.stats.now.item (piece_type c.args.item.chunk) in
    memory_refused (allowed_in c.args.ctx.now) (λ s. start_fault s f false) (first_indices f false c.args.eof) c.in-Err.error c.in-Err.ensures.memory

pub returns-in-Err-clause-cause : goal.returns-in-Err-clause-cause
returns-in-Err-clause-cause g c = start_may c.in-Err.error (memory_start c.in-Err.error c.in-Err.ensures.memory)
