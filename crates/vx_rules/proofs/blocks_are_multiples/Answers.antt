use Rattle.vx_rules.proofs.RuleLaws.{blocks_are_multiples}
use Rattle.vx_rules.proofs.blocks_are_multiples.Goals as goal

pub returns : goal.returns
returns c = blocks_are_multiples
