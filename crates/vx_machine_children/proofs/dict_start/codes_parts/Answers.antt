use Rattle.std.proofs.Common.{ap, ◌∙◌}
use Rattle.vx_model.specs.TyView.{ty}
use Rattle.vx_machine_node.specs.View.{options_in}
use Rattle.vx_machine_children.proofs.DictStarts.{codes_type}
use Rattle.vx_machine_children.proofs.dict_start.codes_parts.Goals as goal

pub returns-clause-dtype : goal.returns-clause-dtype
returns-clause-dtype c = ap ty c.in_ok-dtype.ensures.ok ∙ codes_type c.code_ptype.result (options_in c.args.node.now) c.code_ptype.ensures
