use Rattle.vx_rules.proofs.RuleLaws.{buffer_holds_less}
use Rattle.vx_rules.proofs.buffers_hold_less.Goals as goal

pub returns : goal.returns
returns c = buffer_holds_less
