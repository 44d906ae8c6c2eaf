use Rattle.vx_rules.proofs.RuleLaws.{runs_give_rows}
use Rattle.vx_rules.proofs.runs_give_rows.Goals as goal

pub returns : goal.returns
returns c = runs_give_rows
