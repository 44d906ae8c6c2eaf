use Rattle.std.proofs.Common.{arith}
use Rattle.vx_machine_node.specs.View.{item_of}
use Rattle.vx_machine_start.proofs.StartRows.{fed_row}
use Rattle.vx_machine_children.proofs.chunked.fed.Goals as goal

pub returns-in-Ok-clause-fed : goal.returns-in-Ok-clause-fed
returns-in-Ok-clause-fed g c = fed_row c.args.kid c.give.new.self c.shut.new.self (item_of c.args.item) c.in-Ok.ensures.shows c.shut.ensures.shows

pub refuse-requires-clause-reserved : goal.refuse-requires-clause-reserved
refuse-requires-clause-reserved g c = omega (arith, c.give.ensures.reserved, c.requires.reserved)

pub returns-in-Ok-clause-tracked : goal.returns-in-Ok-clause-tracked
returns-in-Ok-clause-tracked g c = omega (arith, c.give.ensures.reserved, c.shut.ensures.reserved)

pub returns-in-Err-clause-tracked : goal.returns-in-Err-clause-tracked
returns-in-Err-clause-tracked g c = omega (arith, c.give.ensures.reserved, c.refuse.ensures.tracked)
