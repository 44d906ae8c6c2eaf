use Rattle.vx_rules.proofs.RuleLaws.{runs_are_longest}
use Rattle.vx_rules.proofs.runs_are_longest.Goals as goal

pub returns : goal.returns
returns c = runs_are_longest
