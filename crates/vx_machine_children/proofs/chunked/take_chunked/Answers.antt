use Rattle.std.proofs.Common.{◌+◌, ◌<◌, ◌^◌, false, ap, subst, ◌∙◌}
use Rattle.std.proofs.lemmas.Result.{err_from_is_err_and}
use Rattle.std.specs.Arc.{arc_value}
use Rattle.vx_model.specs.TyView.{ty}
use Rattle.vx_machine_nodes.specs.Acting.{SplitRefused}
use Rattle.vx_machine_node.specs.View.{child_form}
use Rattle.vx_sink.specs.ContextView.{allowed_in}
use Rattle.vx_machine_task.specs.View.{row}
use Rattle.vx_machine_children.proofs.ChunkTakes.{chunked_took, start_why, chunked_why}
use Rattle.vx_machine_children.proofs.chunked.take_chunked.Goals as goal

pub returns-in_ok-take_chunk-in-Ok-clause-done : goal.returns-in_ok-take_chunk-in-Ok-clause-done
returns-in_ok-take_chunk-in-Ok-clause-done g c = λ s todo q.
    chunked_took s c.args.name.now (row c.args.kids.now.items) c.args.item c.args.node.now.marked (ty (arc_value c.args.node.now.dtype)) (child_form c.args.node.now) c.args.eof.now c.args.rows.now
    c.take_chunk.new.eof c.in-Ok.total (row c.take_chunk.new.kids.items) todo (c.in_ok-take_chunk-in-Ok.ensures.allowed s q) c.in_ok-take_chunk-in-Ok.ensures.pointer
    (c.in-Ok.ensures.ok ∙ ap (λ n. c.args.rows.now + n) c.len.ensures.rows) (subst (λ n. c.args.rows.now + n < 2 ^ 64) c.len.ensures.rows c.in-Ok.ensures.fits)
    c.in_ok-take_chunk-in-Ok.ensures.counted c.in_ok-take_chunk-in-Ok.ensures.kids

pub returns-in_err-take_chunk-in-Ok-clause-refused : goal.returns-in_err-take_chunk-in-Ok-clause-refused
returns-in_err-take_chunk-in-Ok-clause-refused g c =
    let p = err_from_is_err_and c.from_residual.result c.from_residual.ensures.1 in
    rw (p.1, p.2) (λ s q. start_why s c.args.name.now (row c.args.kids.now.items) c.args.item c.args.node.now.marked (ty (arc_value c.args.node.now.dtype)) (child_form c.args.node.now) c.args.eof.now c.args.rows.now
    (allowed_in c.args.ctx.now) c.in_err-take_chunk-in-Ok.field-0.0 q c.in_err-take_chunk-in-Ok.ensures.refused)

pub returns-in-Err-clause-refused : goal.returns-in-Err-clause-refused
returns-in-Err-clause-refused g c = λ s q.
    chunked_why s c.args.name.now (row c.args.kids.now.items) c.args.item c.args.node.now.marked (ty (arc_value c.args.node.now.dtype)) (child_form c.args.node.now) c.args.eof.now c.args.rows.now c.in-Err.error
    (subst (λ n. SplitRefused false (c.args.rows.now + n) c.in-Err.error) c.len.ensures.rows c.in-Err.ensures.refused)
