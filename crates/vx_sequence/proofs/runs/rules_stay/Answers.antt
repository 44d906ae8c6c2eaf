use Rattle.vx_sequence.proofs.Laws.{all_rules}
use Rattle.vx_sequence.proofs.runs.rules_stay.Goals as goal

pub returns : goal.returns
returns c = all_rules
