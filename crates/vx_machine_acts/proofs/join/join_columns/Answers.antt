use Rattle.std.proofs.Common.{ap, ◌∙◌}
use Rattle.std.specs.Arc.{arc_value}
use Rattle.vx_model.specs.TyView.{ty}
use Rattle.vx_machine_acts.proofs.JoinSteps.{columns_join, columns_made}
use Rattle.vx_machine_acts.proofs.join.join_columns.Goals as goal

pub unreachable-requires : goal.unreachable-requires
unreachable-requires c =
    columns_join (ty c.in-Ok.dtype) (ty (arc_value c.args.node.now.dtype)) c.args.rows c.args.layouts c.in-Err._refusal (c.in-Ok.ensures.cases ∙ ap ty c.deref.ensures) c.args.node.now.structs c.requires c.in-Err.ensures.room c.in-Err.ensures.made

pub returns-clause-layout : goal.returns-clause-layout
returns-clause-layout c =
    columns_made (ty c.in-Ok.dtype) (ty (arc_value c.args.node.now.dtype)) c.args.rows c.args.layouts c.in-Ok-new.fields (c.in-Ok.ensures.cases ∙ ap ty c.deref.ensures) c.args.node.now.structs c.requires c.in-Ok-new.ensures.made
