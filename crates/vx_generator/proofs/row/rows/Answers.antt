use Rattle.std.proofs.Common.{map, ◌∙◌}
use Rattle.std.proofs.lemmas.List.{map_push}
use Rattle.vx_model.specs.TreeView.{tree}
use Rattle.vx_generator.proofs.RowLaws.{rows_with}
use Rattle.vx_generator.proofs.row.rows.Goals as goal

pub loop-k-preserved : goal.loop-k-preserved
loop-k-preserved c =
    rw c.in_ok-push.ensures.items (map_push tree c.loop-k.cells.items c.in_ok-row.field-0 ∙ rows_with c.args.first c.loop-k.k (map tree c.loop-k.cells.items) (tree c.in_ok-row.field-0) c.loop-k.invariant c.in_ok-row.ensures)
