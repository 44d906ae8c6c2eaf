use Rattle.std.proofs.Common.{ap, ◌∙◌}
use Rattle.std.specs.Arc.{arc_value}
use Rattle.vx_model.specs.TyView.{ty}
use Rattle.vx_machine_acts.proofs.JoinSteps.{lists_join, lists_made}
use Rattle.vx_machine_acts.proofs.join.join_lists.Goals as goal

pub from_parts-requires : goal.from_parts-requires
from_parts-requires c = lists_join (ty c.in-Ok.dtype) (ty (arc_value c.args.node.now.dtype)) c.args.layouts (c.in-Ok.ensures.cases ∙ ap ty c.deref.ensures) c.args.node.now.lists c.requires

pub returns-clause-layout : goal.returns-clause-layout
returns-clause-layout c =
    lists_made c.in-Ok.dtype (ty (arc_value c.args.node.now.dtype)) c.args.rows c.new.result c.args.layouts c.from_parts.result (c.in-Ok.ensures.cases ∙ ap ty c.deref.ensures) c.new.ensures.items c.from_parts.ensures
