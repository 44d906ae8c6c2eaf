use Rattle.vx_prune_laws.proofs.PrunedLaws.{pruning_keeps_rows}
use Rattle.vx_prune_laws.proofs.pruning_keeps_rows.Goals as goal

pub returns : goal.returns
returns c = pruning_keeps_rows
