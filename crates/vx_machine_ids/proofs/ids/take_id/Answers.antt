use Rattle.vx_machine_ids.proofs.CallLaws.{owned_open}
use Rattle.vx_machine_ids.proofs.IdMoves.{took, not_took}
use Rattle.vx_machine_ids.proofs.ids.take_id.Goals as goal

pub advance-requires : goal.advance-requires
advance-requires g c = owned_open (g.O.Order.active c.args.order.now) c.args.pointer.now c.requires

pub returns-in-Ok-clause-moved : goal.returns-in-Ok-clause-moved
returns-in-Ok-clause-moved g c = took (g.O.Order.active c.args.order.now) (g.O.Order.active c.advance.new.self) c.args.pointer.now c.advance.new.p c.in-Ok.id
    c.in-Ok.ensures.rules c.in-Ok.ensures.active c.in-Ok.ensures.pointer c.in-Ok.ensures.id c.requires

pub returns-in-Err-clause-moved : goal.returns-in-Err-clause-moved
returns-in-Err-clause-moved g c = not_took (g.O.Order.active c.args.order.now) (g.O.Order.active c.advance.new.self) c.args.pointer.now c.advance.new.p
    c.in-Err.ensures.unchanged.1 c.in-Err.ensures.unchanged.0 c.requires
