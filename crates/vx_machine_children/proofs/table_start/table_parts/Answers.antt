use Rattle.std.proofs.Common.{ap, ◌∙◌}
use Rattle.vx_model.specs.TyView.{ty}
use Rattle.vx_machine_children.proofs.table_start.table_parts.Goals as goal

pub returns-clause-dtype : goal.returns-clause-dtype
returns-clause-dtype c = ap ty c.in_ok-dtype.ensures.ok ∙ c.in_ok-clone.ensures.cases ∙ c.dtype.ensures
