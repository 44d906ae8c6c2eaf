use Rattle.std.proofs.Common.{sym, ◌∙◌}
use Rattle.vx_model.specs.TyView.{ty}
use Rattle.vx_layout_tree.proofs.KidSteps.{chunk_sum}
use Rattle.vx_layout_build.proofs.BuildSteps.{chunked_made, rows_are}
use Rattle.vx_layout_build.proofs.alone.check_chunks.Goals as goal

pub returns : goal.returns
returns c =
    let parts = c.args.parts.now in (
      chunked_made parts c.args.metadata.now c.total_rows.result c.in_ok-no_metadata.ensures c.total_rows.ensures c.in_ok-has_rows.ensures,
      chunk_sum (ty parts.dtype) parts.children ∙ sym c.total_rows.ensures ∙ rows_are _ _ c.in_ok-has_rows.ensures,
    )
