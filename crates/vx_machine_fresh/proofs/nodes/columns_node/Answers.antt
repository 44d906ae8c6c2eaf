use Rattle.std.proofs.Common.{sym, ap, subst, ◌∙◌}
use Rattle.std.specs.Arc.{arc_value}
use Rattle.vx_model.specs.TyView.{ty}
use Rattle.vx_machine_node.specs.Causes.{StartMay}
use Rattle.vx_machine_fresh.specs.Fresh.{NodeRefused}
use Rattle.vx_machine_fresh.proofs.StartCauses.{split_starts, split_refused}
use Rattle.vx_machine_fresh.proofs.nodes.columns_node.Goals as goal

pub returns-in-Err-clause-cause : goal.returns-in-Err-clause-cause
returns-in-Err-clause-cause c = subst (λ e. StartMay e) (sym c.into.ensures) (split_starts (ty c.in-Ok.copy) c.in-Err.error c.in-Err.ensures.refused)

pub returns-in-Err-clause-refused : goal.returns-in-Err-clause-refused
returns-in-Err-clause-refused c =
    subst (λ e. NodeRefused (ty (arc_value c.args.dtype)) e) (sym c.into.ensures)
    (split_refused (ty c.in-Ok.copy) (ty (arc_value c.args.dtype)) c.in-Err.error (c.in-Ok.ensures.cases ∙ ap ty c.deref.ensures) c.in-Err.ensures.refused)
