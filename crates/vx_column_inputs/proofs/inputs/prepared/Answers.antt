use Rattle.std.proofs.Common.{[], inl, inr, ap, sym, subst, ◌∙◌}
use Rattle.std.proofs.lemmas.Result.{err_from_is_err_and}
use Rattle.vx_strategy.specs.NodeViews.{struct_way}
use Rattle.vx_plan.specs.Valid.{OfSchema, AllOf}
use Rattle.vx_sink.specs.ContextView.{is_marked, listed, allowed_in}
use Rattle.vx_sink.specs.contracts.list_source.ListSourceBatchSource.TheImpl as source
use Rattle.vx_sink.specs.contracts.list_source.ListSourceFallible.TheImpl as faults
use Rattle.vx_column_ways.specs.Ways.{columns_in}
use Rattle.vx_column_ways.specs.ColumnCount.{columns_of}
use Rattle.vx_column_inputs.specs.Prepared.{ArePrepared, SplitStops}
use Rattle.vx_column_inputs.proofs.Answering.{none_given, no_room}
use Rattle.vx_column_inputs.proofs.inputs.prepared.Goals as goal

pub split_up-requires-clause-count : goal.split_up-requires-clause-count
split_up-requires-clause-count g c = ap columns_of (c.in_ok-dtype.ensures.cases ∙ c.dtype.ensures) ∙ c.requires

pub split_up-requires-clause-typed : goal.split_up-requires-clause-typed
split_up-requires-clause-typed g c = subst (λ t. OfSchema t c.in_ok-batches.batches.items) (sym (c.in_ok-dtype.ensures.cases ∙ c.dtype.ensures)) c.in_ok-batches.ensures.typed

pub split_up-requires-clause-whole : goal.split_up-requires-clause-whole
split_up-requires-clause-whole g c = subst (λ t. AllOf t c.in_ok-batches.batches.items) (sym (c.in_ok-dtype.ensures.cases ∙ c.dtype.ensures)) c.in_ok-batches.ensures.whole

pub returns-in_err-dtype-clause-refused : goal.returns-in_err-dtype-clause-refused
returns-in_err-dtype-clause-refused g c =
    let p = err_from_is_err_and c.from_residual.result c.from_residual.ensures.1 in
    rw (p.1, p.2)
    (inl (no_room g.B.Fallible.faults g.B.Fallible.may_fail g.B.Fallible.must_fail g.B.BatchSource.to_come (g.B.BatchSource.kind c.args.source.now) c.args.source.now c.args.source.now []
    (none_given g.B.Fallible.faults g.B.Fallible.may_fail g.B.Fallible.must_fail g.B.BatchSource.to_come (g.B.BatchSource.kind c.args.source.now) c.args.source.now)))

pub returns-in_err-columns-clause-refused : goal.returns-in_err-columns-clause-refused
returns-in_err-columns-clause-refused g c =
    let p = err_from_is_err_and c.from_residual-in_err-columns.result c.from_residual-in_err-columns.ensures.1 in
    rw (p.1, p.2) (inr (record {
      taken = c.in_ok-batches.batches.items;
      told = c.in_ok-batches.ensures.read;
      typed = c.in_ok-batches.ensures.typed;
      whole = c.in_ok-batches.ensures.whole;
      cause = subst (λ t. SplitStops t c.in_ok-batches.batches.items c.in_err-columns.field-0.0) (c.in_ok-dtype.ensures.cases ∙ c.dtype.ensures) c.in_err-columns.ensures.refused;
    }))

pub returns-clause-read : goal.returns-clause-read
returns-clause-read g c = (
  c.in_ok-batches.batches.items,
  c.in_ok-batches.ensures.read,
  subst
      (λ t. ArePrepared (listed c.args.ctx.now) (allowed_in c.args.ctx.now) source.ghosts.kind faults.ghosts.may_fail source.ghosts.to_come source.ghosts.left t c.in_ok-batches.batches.items (columns_in (struct_way c.args.fields.now) t (is_marked c.args.ctx.now)) c.args.count
      c.in_ok-columns.columns) (c.in_ok-dtype.ensures.cases ∙ c.dtype.ensures) c.in_ok-columns.ensures.split,
)
