use Rattle.std.proofs.Common.{◌==◌, ap, ◌∙◌}
use Rattle.std.specs.Prelude.{if◌then◌else◌}
use Rattle.std.specs.Arc.{arc_value}
use Rattle.vx_model.specs.Ty.{nullable}
use Rattle.vx_model.specs.TyView.{ty}
use Rattle.vx_machine_task.proofs.ReadyViews.{lists_count}
use Rattle.vx_machine_task.proofs.ready.lists_fit.Goals as goal

pub returns : goal.returns
returns c =
    ap (λ n. c.args.kids == n) (c.list_columns.ensures ∙ ap (λ b. if b then 3 else 2) (c.is_nullable.ensures ∙ ap (λ z. nullable (ty z)) c.deref.ensures)
    ∙ lists_count (ty (arc_value c.args.node.now.dtype)) c.args.node.now.lists)
