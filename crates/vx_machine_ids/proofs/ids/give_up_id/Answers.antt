use Rattle.vx_machine_ids.proofs.IdMoves.{id_lost}
use Rattle.vx_machine_ids.proofs.CallLaws.{owned_active}
use Rattle.vx_machine_ids.proofs.ids.give_up_id.Goals as goal

pub release-requires : goal.release-requires
release-requires g c = owned_active (g.O.Order.active c.args.order.now) c.args.id c.requires

pub returns-clause-moved : goal.returns-clause-moved
returns-clause-moved g c = id_lost (g.O.Order.active c.args.order.now) (g.O.Order.active c.release.new.self) c.args.id c.release.ensures.active c.requires
