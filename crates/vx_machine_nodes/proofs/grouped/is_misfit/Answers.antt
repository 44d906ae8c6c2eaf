use Rattle.std.proofs.Common.{⊎_elim}
use Rattle.vx_model.specs.TyView.{ty}
use Rattle.vx_machine_nodes.proofs.GroupActs.{misfit_rows, misfit_all}
use Rattle.vx_machine_nodes.proofs.grouped.is_misfit.Goals as goal

pub returns-in-Repartition : goal.returns-in-Repartition
returns-in-Repartition c = ⊎_elim
    (λ x. misfit_rows c.args.rule.now x.0 (ty c.args.dtype.now) c.args.chunk.now c.has_type.result x.1 c.requires c.has_type.ensures)
    (λ x. misfit_all c.args.rule.now x.0 (ty c.args.dtype.now) c.args.chunk.now c.has_type.result x.1 c.requires c.has_type.ensures)
    c.in-Repartition.is
