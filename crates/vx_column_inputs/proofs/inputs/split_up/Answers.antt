use Rattle.std.proofs.Common.{◌≡◌, ◌<◌, ◌^◌, length, refl, ap, ◌∙◌, subst, arith}
use Rattle.std.proofs.lemmas.Result.{err_from_is_err_and}
use Rattle.vx_model.specs.TyView.{ty}
use Rattle.vx_plan.specs.PlanData.{row_total}
use Rattle.vx_plan.specs.SourcePlan.{batch_items}
use Rattle.vx_column_inputs.specs.Reading.{IsRowsPast}
use Rattle.vx_column_inputs.proofs.Answering.{names_stop}
use Rattle.vx_column_inputs.proofs.Rows.{counts_fit}
use Rattle.vx_column_inputs.proofs.inputs.split_up.Goals as goal

pub returns-in_err-inputs-clause-refused : goal.returns-in_err-inputs-clause-refused
returns-in_err-inputs-clause-refused c =
    let p = err_from_is_err_and c.from_residual.result c.from_residual.ensures.1 in
    rw (p.1, p.2) (names_stop (ty c.args.dtype) c.args.batches.items c.in_err-inputs.field-0.0 c.in_err-inputs.ensures.refused)

pub returns-in-Err-clause-refused : goal.returns-in-Err-clause-refused
returns-in-Err-clause-refused c = (c.in_ok-inputs.ensures.distinct, subst (λ bs. IsRowsPast bs c.in-Err.total) c.as_slice.ensures.value c.in-Err.ensures.past)

pub returns-clause-split : goal.returns-clause-split
returns-clause-split c =
    let rows : c.in-Ok.rows ≡ row_total (batch_items 0 c.args.batches.items) = c.in-Ok.ensures.total ∙ ap (λ bs. row_total (batch_items 0 bs)) c.as_slice.ensures.value in
    let few : length c.args.batches.items < 2 ^ 64 = omega (arith, c.args.batches.small, c.args.batches.ok.0) in
    let small : c.args.count < 2 ^ 63 = omega (arith, c.in_ok-inputs.inputs.small, c.in_ok-inputs.ensures.count) in
    record {
      typed = c.requires.typed;
      whole = c.requires.whole;
      distinct = c.in_ok-inputs.ensures.distinct;
      fit = counts_fit c.args.batches.items c.in-Ok.rows c.args.count rows (omega arith) few small;
      type_is = refl;
      rows_are = rows;
      batches_are = c.len-taken.ensures ∙ c.args.batches.ok.0;
      fronts_are = c.in_ok-fronts.ensures;
      inputs_are = c.in_ok-inputs.ensures.made;
    }
