use Rattle.std.proofs.Common.{[], ◌∷◌, ap}
use Rattle.vx_model.specs.TyView.{ty}
use Rattle.vx_strategy.specs.StrategyView.{strategy_data}
use Rattle.vx_sink.specs.ContextView.{allowed_in, is_marked}
use Rattle.vx_machine_ids.specs.Stock.{end_stock}
use Rattle.vx_machine_ids.proofs.MoveLaws.{owned_right, moved_behind}
use Rattle.vx_machine_state.specs.State.{no_tasks}
use Rattle.vx_machine_view.specs.Machine.{reading}
use Rattle.vx_machine_node.specs.View.{form_of}
use Rattle.vx_machine_task.specs.Stocks.{task_stock}
use Rattle.vx_machine_tasks.proofs.StartRows.{started_none}
use Rattle.vx_machine.specs.Names.{names_stock, names_of}
use Rattle.vx_machine.proofs.Coming.{begins}
use Rattle.vx_machine.proofs.MachineMoves.{first_left, second_first}
use Rattle.vx_machine.proofs.machine.Machine.start_from.Goals as goal

pub returns-in-Ok-clause-allowed : goal.returns-in-Ok-clause-allowed
returns-in-Ok-clause-allowed g c = c.in-Ok.ensures.shows.allowed

pub returns-in-Ok-clause-unreserved : goal.returns-in-Ok-clause-unreserved
returns-in-Ok-clause-unreserved g c = started_none (allowed_in c.args.ctx.now) (form_of c.args.strategy.now c.args.dtype.now) (is_marked c.args.ctx.now) (1 ∷ []) c.args.eof c.in-Ok.root c.in-Ok.ensures.shows

pub returns-in-Ok-clause-counted : goal.returns-in-Ok-clause-counted
returns-in-Ok-clause-counted g c = c.in-Ok.ensures.shows.counted

pub returns-in-Ok-clause-shows : goal.returns-in-Ok-clause-shows
returns-in-Ok-clause-shows g c = ap (λ z. record { phase = reading (names_of c.args.names); root = z }) (c.in-Ok.ensures.shows.tasks no_tasks)

pub returns-in-Ok-clause-begins : goal.returns-in-Ok-clause-begins
returns-in-Ok-clause-begins g c =
    begins (allowed_in c.args.ctx.now) (strategy_data c.args.strategy.now) (ty c.args.dtype.now) (is_marked c.args.ctx.now) (names_of c.args.names) c.args.eof _ c.in-Ok.ensures.shows.allowed (returns-in-Ok-clause-shows g c)

pub start_root-requires : goal.start_root-requires
start_root-requires g c = owned_right (g.O.Order.active c.args.order.now) (names_stock c.args.names) (end_stock c.args.eof) c.requires

pub returns-in-Ok-clause-moved : goal.returns-in-Ok-clause-moved
returns-in-Ok-clause-moved g c =
    moved_behind (g.O.Order.active c.args.order.now) (g.O.Order.active c.start_root.new.order) (names_stock c.args.names) (end_stock c.args.eof) (task_stock c.in-Ok.root) c.requires c.in-Ok.ensures.moved

pub give_up_names-requires : goal.give_up_names-requires
give_up_names-requires g c =
    first_left (g.O.Order.active c.args.order.now) (g.O.Order.active c.start_root.new.order) (names_stock c.args.names) (end_stock c.args.eof) c.requires c.in-Err.ensures.moved

pub returns-in-Err-clause-moved : goal.returns-in-Err-clause-moved
returns-in-Err-clause-moved g c =
    second_first (g.O.Order.active c.args.order.now) (g.O.Order.active c.start_root.new.order) (names_stock c.args.names) (end_stock c.args.eof) c.requires c.in-Err.ensures.moved
    (g.O.Order.active c.give_up_names.new.order) c.give_up_names.ensures.moved
