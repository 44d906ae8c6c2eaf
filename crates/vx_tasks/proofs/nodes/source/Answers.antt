use Rattle.vx_tasks.proofs.Machine.{machine_rules, machine_order, machine_named}
use Rattle.vx_tasks.proofs.nodes.source.Goals as goal

pub returns : goal.returns
returns c = λ here n fits e root kids g.
    (machine_rules here n fits e root kids g, machine_order here n fits e root kids g, machine_named here n fits e root kids g)
