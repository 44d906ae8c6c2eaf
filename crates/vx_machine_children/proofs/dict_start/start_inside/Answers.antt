use Rattle.std.proofs.Common.{ap, ◌∙◌}
use Rattle.std.specs.Arc.{arc_value}
use Rattle.vx_model.specs.TyView.{ty}
use Rattle.vx_strategy.specs.StrategyView.{strategy_data}
use Rattle.vx_sink.specs.ContextView.{allowed_in}
use Rattle.vx_write_answer.specs.Causes.{of_order}
use Rattle.vx_machine_turns.specs.Starts.{start_fault}
use Rattle.vx_machine_state.specs.Start.{first_indices}
use Rattle.vx_machine_node.specs.View.{form_at}
use Rattle.vx_machine_children.proofs.DictStarts.{inside_shows, inside_refused}
use Rattle.vx_machine_start.proofs.StartShows.{memory_refused}
use Rattle.vx_machine_children.proofs.dict_start.start_inside.Goals as goal

pub returns-in-Ok-clause-shows : goal.returns-in-Ok-clause-shows
returns-in-Ok-clause-shows g c =
    inside_shows (allowed_in c.args.ctx.now) (strategy_data c.strategy-strategy.result.now) c.args.writer.now.item (ty (arc_value c.args.dtype)) c.args.marked c.in-Ok.below c.args.id c.start_task.result
    c.strategy-strategy.ensures.same c.in-Ok.ensures.pointer.0 c.in-Ok.ensures.pointer.1 c.args.name c.start_task.ensures.shows

pub returns-in-Ok-clause-refused : goal.returns-in-Ok-clause-refused
returns-in-Ok-clause-refused g c =
    inside_refused (allowed_in c.args.ctx.now) (strategy_data c.strategy-strategy.result.now) c.args.writer.now.item (ty (arc_value c.args.dtype)) c.args.marked c.in-Ok.below c.args.id c.start_task.result
    c.strategy-strategy.ensures.same c.in-Ok.ensures.pointer.0 c.in-Ok.ensures.pointer.1 c.start_task.ensures.refused

pub returns-in-Err-clause-refused : goal.returns-in-Err-clause-refused
returns-in-Err-clause-refused g c = λ e x y.
    let f = form_at c.args.writer.now.item (ty (arc_value c.args.dtype)) in
    memory_refused (allowed_in c.args.ctx.now) (λ s. start_fault s f c.args.marked) (first_indices f c.args.marked e) c.into.result (c.into.ensures ∙ ap of_order c.in-Err.ensures.memory)
