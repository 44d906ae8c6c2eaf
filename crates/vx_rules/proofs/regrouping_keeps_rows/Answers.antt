use Rattle.vx_rules.proofs.RuleLaws.{regrouping_keeps_rows}
use Rattle.vx_rules.proofs.regrouping_keeps_rows.Goals as goal

pub returns : goal.returns
returns c = regrouping_keeps_rows
