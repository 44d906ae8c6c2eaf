use Rattle.vx_machine_ids.proofs.CallLaws.{owned_open}
use Rattle.vx_machine_ids.proofs.IdMoves.{split_took, split_not}
use Rattle.vx_machine_ids.proofs.ids.take_below.Goals as goal

pub split_off-requires : goal.split_off-requires
split_off-requires g c = owned_open (g.O.Order.active c.args.order.now) c.args.pointer.now c.requires

pub returns-in-Ok-clause-moved : goal.returns-in-Ok-clause-moved
returns-in-Ok-clause-moved g c = split_took (g.O.Order.active c.args.order.now) (g.O.Order.active c.split_off.new.order) c.args.pointer.now c.split_off.new.p c.in-Ok.below
    c.in-Ok.ensures.rules c.in-Ok.ensures.active c.in-Ok.ensures.pointer c.in-Ok.ensures.off c.requires

pub returns-in-Err-clause-moved : goal.returns-in-Err-clause-moved
returns-in-Err-clause-moved g c = split_not (g.O.Order.active c.args.order.now) (g.O.Order.active c.split_off.new.order) c.args.pointer.now c.split_off.new.p
    c.in-Err.ensures.rules c.in-Err.ensures.refused c.requires
