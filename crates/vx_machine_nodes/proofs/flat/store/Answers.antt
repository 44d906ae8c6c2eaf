use Rattle.std.proofs.lemmas.Result.{err_from_is_err_and}
use Rattle.vx_machine_nodes.proofs.CauseSteps.{encode_may}
use Rattle.std.proofs.Common.{[], ◌∷◌, length, Some, ap, sym, ◌∙◌, arith}
use Rattle.vx_model.specs.ChunkData.{cells}
use Rattle.vx_model.specs.TyView.{ty}
use Rattle.vx_segment_writer.specs.Segment.{encode}
use Rattle.vx_sink.specs.ContextView.{listed}
use Rattle.vx_machine_node.proofs.Fitting.{then_fit, one_fits}
use Rattle.vx_machine_nodes.proofs.TakeShows.{store_refused}
use Rattle.vx_machine_nodes.proofs.flat.store.Goals as goal

pub returns-in_err-bytes-clause-cause : goal.returns-in_err-bytes-clause-cause
returns-in_err-bytes-clause-cause c =
    let p = err_from_is_err_and c.from_residual.result c.from_residual.ensures.1 in
    rw (p.1, p.2) (encode_may c.in_err-bytes.field-0.0)

pub kept_tree-requires : goal.kept_tree-requires
kept_tree-requires c = record {
  encodings = c.array_ctx.result.now;
  padded = c.args.node.now.options.include_padding;
  chunk = c.args.chunk.now;
  encoded = c.in_ok-bytes.ensures.ok ∙ ap (λ b. Some b) (sym c.deref.ensures.value);
}

pub returns-clause-stored : goal.returns-clause-stored
returns-clause-stored c = record {
  bytes = ap (λ ids. encode ids c.args.node.now.options.include_padding c.args.chunk.now) (sym c.array_ctx.ensures) ∙ c.in_ok-bytes.ensures.ok;
  tree = c.in_ok-tree.ensures (listed c.args.ctx.now) c.args.chunk.now
      (ap (λ ids. encode ids c.args.node.now.options.include_padding c.args.chunk.now) (sym c.array_ctx.ensures) ∙ c.in_ok-bytes.ensures.ok ∙ ap (λ b. Some b) (sym c.deref.ensures.value));
  rows = c.len.ensures.rows;
  type = ap ty c.in_ok-dtype.ensures;
  counted = then_fit (length (cells c.args.chunk.now)) (length c.in_ok-bytes.bytes.items ∷ []) (omega (arith, c.len.ensures.rows)) (one_fits (length c.in_ok-bytes.bytes.items) c.in_ok-bytes.ensures.short);
}

pub returns-in_err-bytes-clause-refused : goal.returns-in_err-bytes-clause-refused
returns-in_err-bytes-clause-refused c =
    let p = err_from_is_err_and c.from_residual.result c.from_residual.ensures.1 in
    rw (p.1, p.2) (store_refused c.array_ctx.result.now (listed c.args.ctx.now) c.args.chunk.now c.in_err-bytes.field-0.0 c.array_ctx.ensures c.in_err-bytes.ensures.refused)
