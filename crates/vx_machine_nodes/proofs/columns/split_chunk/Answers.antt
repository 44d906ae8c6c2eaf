use Rattle.std.proofs.Common.{ap, sym, ◌∙◌, ◌≡◌, ◌+◌, ◌<◌, ◌^◌, not, false, length, subst, None, [], arith}
use Rattle.std.proofs.lemmas.Result.{err_from_is_err_and}
use Rattle.vx_model.specs.TyView.{ty}
use Rattle.vx_machine_nodes.proofs.CauseSteps.{split_may}
use Rattle.std.specs.Arc.{arc_value}
use Rattle.vx_model.specs.Ty.{ty_eq}
use Rattle.vx_model.specs.ChunkData.{piece_type, cells}
use Rattle.vx_machine_state.specs.Acts.{column_count}
use Rattle.vx_machine_nodes.specs.Acting.{SplitRefused}
use Rattle.vx_machine_nodes.proofs.RefusalSteps.{by_rows}
use Rattle.vx_machine_nodes.proofs.SplitSteps.{columns_are, columns_counted, typed_eq, misfit_eq, split_memory}
use Rattle.vx_machine_nodes.proofs.columns.split_chunk.Goals as goal

pub react-requires : goal.react-requires
react-requires c = c.has_type.ensures.0 c.if-not-has_type.false ∙ ap ty c.deref.ensures ∙ sym c.args.node.now.same

pub returns-in_err-columns-clause-cause : goal.returns-in_err-columns-clause-cause
returns-in_err-columns-clause-cause c =
    let p = err_from_is_err_and c.from_residual.result c.from_residual.ensures.1 in
    rw (p.1, p.2) (split_may c.in_err-columns.field-0.0 c.in_err-columns.ensures.memory)

pub returns-in-Ok-reserve-clause-typed : goal.returns-in-Ok-reserve-clause-typed
returns-in-Ok-reserve-clause-typed c =
    typed_eq (piece_type c.args.chunk) (ty c.deref.result.now) (ty (arc_value c.args.node.now.dtype)) c.has_type.result c.has_type.ensures (ap ty c.deref.ensures) c.if-not-has_type.false

pub returns-in-Ok-reserve-clause-columns : goal.returns-in-Ok-reserve-clause-columns
returns-in-Ok-reserve-clause-columns c =
    columns_are c.args.node.now.split (ty (arc_value c.args.node.now.dtype)) c.args.chunk c.in_ok-columns.columns.items c.args.node.now.same c.args.node.now.structs c.in_ok-columns.ensures.columns

pub returns-in-Ok-reserve-clause-rows : goal.returns-in-Ok-reserve-clause-rows
returns-in-Ok-reserve-clause-rows c = c.in-Ok.ensures.ok ∙ ap (λ n. c.args.rows + n) c.len.ensures.rows

pub returns-in-Ok-reserve-clause-count : goal.returns-in-Ok-reserve-clause-count
returns-in-Ok-reserve-clause-count c =
    let n : length c.in_ok-columns.columns.items ≡ column_count (ty (arc_value c.args.node.now.dtype)) =
    columns_counted c.args.node.now.split (ty (arc_value c.args.node.now.dtype)) c.args.chunk c.in_ok-columns.columns.items c.args.node.now.same c.args.node.now.structs
    (c.has_type.ensures.0 c.if-not-has_type.false ∙ ap ty c.deref.ensures) c.len.ensures.sound c.in_ok-columns.ensures.columns in
    omega (arith, n, c.in_ok-columns.columns.ok.0)

pub returns-in-Ok-reserve-clause-fits : goal.returns-in-Ok-reserve-clause-fits
returns-in-Ok-reserve-clause-fits c = subst (λ n. c.args.rows + n < 2 ^ 64) c.len.ensures.rows c.in-Ok.ensures.fits

pub returns-then-not-has_type-clause-refused : goal.returns-then-not-has_type-clause-refused
returns-then-not-has_type-clause-refused c =
    misfit_eq (piece_type c.args.chunk) (ty c.deref.result.now) (ty (arc_value c.args.node.now.dtype)) c.has_type.result c.has_type.ensures (ap ty c.deref.ensures) c.if-not-has_type.true

pub returns-in-Err-clause-refused : goal.returns-in-Err-clause-refused
returns-in-Err-clause-refused c =
    by_rows None (not (ty_eq (piece_type c.args.chunk) (ty (arc_value c.args.node.now.dtype)))) (c.args.rows + length (cells c.args.chunk)) [] c.in-Err.error
    (subst (λ n. SplitRefused false (c.args.rows + n) c.in-Err.error) c.len.ensures.rows c.in-Err.ensures.refused)

pub returns-in_err-columns-clause-refused : goal.returns-in_err-columns-clause-refused
returns-in_err-columns-clause-refused c =
    let p = err_from_is_err_and c.from_residual.result c.from_residual.ensures.1 in
    rw (p.1, p.2) (split_memory (SplitRefused (not (ty_eq (piece_type c.args.chunk) (ty (arc_value c.args.node.now.dtype)))) (c.args.rows + length (cells c.args.chunk))) c.in_err-columns.field-0.0 tt c.in_err-columns.ensures.memory)
