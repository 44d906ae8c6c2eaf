use Rattle.std.proofs.Common.{[], ◌∷◌, sym, subst}
use Rattle.std.specs.Arc.{arc_value}
use Rattle.std.specs.Prelude.{IfOk, IfErr}
use Rattle.vx_sink.specs.ContextView.{allowed_in, is_marked}
use Rattle.vx_strategy.specs.StrategyView.{strategy_data}
use Rattle.vx_machine_tasks.specs.Starting.{Started, FormRefused}
use Rattle.vx_machine_node.specs.View.{form_at, form_of}
use Rattle.vx_machine_tasks.proofs.StartCauses.{memory_start}
use Rattle.vx_machine.proofs.stepping.start_root.Goals as goal

pub returns-in-Ok-clause-shows : goal.returns-in-Ok-clause-shows
returns-in-Ok-clause-shows g c =
    subst (λ z. IfOk c.start_task.result (Started (allowed_in c.args.ctx.now) (form_at (strategy_data c.args.strategy.now) z) (is_marked c.args.ctx.now) (1 ∷ []) c.args.eof)) c.in-Ok.ensures.parts.1
    (subst (λ z. IfOk c.start_task.result (Started (allowed_in c.args.ctx.now) (form_of c.args.strategy.now (arc_value c.in-Ok.dtype)) (is_marked c.args.ctx.now) z c.args.eof)) c.in-Ok.ensures.parts.0
    (subst (λ z. IfOk c.start_task.result (Started (allowed_in c.args.ctx.now) (form_of c.args.strategy.now (arc_value c.in-Ok.dtype)) z c.in-Ok.name c.args.eof)) c.has_nullable_ancestor-marked.ensures c.start_task.ensures.shows))

pub returns-in-Ok-clause-refused : goal.returns-in-Ok-clause-refused
returns-in-Ok-clause-refused g c =
    subst (λ z. IfErr c.start_task.result (FormRefused (allowed_in c.args.ctx.now) (form_at (strategy_data c.args.strategy.now) z) (is_marked c.args.ctx.now) c.args.eof)) c.in-Ok.ensures.parts.1
    (subst (λ z. IfErr c.start_task.result (FormRefused (allowed_in c.args.ctx.now) (form_of c.args.strategy.now (arc_value c.in-Ok.dtype)) z c.args.eof)) c.has_nullable_ancestor-marked.ensures c.start_task.ensures.refused)

pub returns-in-Err-clause-cause : goal.returns-in-Err-clause-cause
returns-in-Err-clause-cause g c = memory_start c.in-Err.error c.in-Err.ensures.memory

pub returns-in-Err-clause-refused : goal.returns-in-Err-clause-refused
returns-in-Err-clause-refused g c =
    subst (λ e. FormRefused (allowed_in c.args.ctx.now) (form_of c.args.strategy.now c.args.dtype.now) (is_marked c.args.ctx.now) c.args.eof e) (sym c.in-Err.ensures.memory) tt
