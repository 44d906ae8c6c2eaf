use Rattle.std.proofs.Common.{arith}
use Rattle.vx_machine_children.proofs.dict_start.given.Goals as goal

pub refuse-requires-clause-reserved : goal.refuse-requires-clause-reserved
refuse-requires-clause-reserved g c = omega (arith, c.give.ensures.reserved, c.requires.reserved)

pub returns-in-Ok-clause-tracked : goal.returns-in-Ok-clause-tracked
returns-in-Ok-clause-tracked g c = omega (arith, c.give.ensures.reserved)

pub returns-in-Err-clause-tracked : goal.returns-in-Err-clause-tracked
returns-in-Err-clause-tracked g c = omega (arith, c.give.ensures.reserved, c.refuse.ensures.tracked)
