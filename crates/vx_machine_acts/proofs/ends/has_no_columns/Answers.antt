use Rattle.std.proofs.Common.{◌&&◌, ◌==◌, ap, sym, ◌∙◌}
use Rattle.std.specs.Arc.{arc_value}
use Rattle.vx_model.specs.TyView.{ty}
use Rattle.vx_machine_state.specs.Acts.{column_count}
use Rattle.vx_machine_acts.proofs.TakeShows.{same_columns}
use Rattle.vx_machine_acts.proofs.ends.has_no_columns.Goals as goal

pub returns-then-kids-eq0 : goal.returns-then-kids-eq0
returns-then-kids-eq0 c =
    c.columns_fit-fits.ensures ∙ ap (λ n. 0 == n) (same_columns (ty (arc_value c.args.node.now.dtype)) c.args.node.now.structs)
    ∙ sym (ap (λ k. (k == 0) && (0 == column_count (ty (arc_value c.args.node.now.dtype)))) c.if-kids-eq0.true)
