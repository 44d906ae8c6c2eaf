use Rattle.std.proofs.Common.{length, ap, ◌∙◌}
use Rattle.vx_machine_ids.proofs.CallLaws.{owned_active}
use Rattle.vx_machine_ids.proofs.IdMoves.{children_moved, children_count, id_lost}
use Rattle.vx_machine_ids.proofs.ids.take_children.Goals as goal

pub make_ids-requires : goal.make_ids-requires
make_ids-requires g c = owned_active (g.O.Order.active c.args.order.now) c.args.id c.requires

pub returns-in-Ok-clause-moved : goal.returns-in-Ok-clause-moved
returns-in-Ok-clause-moved g c = children_moved (g.O.Order.active c.args.order.now) (g.O.Order.active c.make_ids.new.order) c.args.id c.args.count c.in-Ok.ids.items
    c.in-Ok.ensures.rules c.in-Ok.ensures.active c.in-Ok.ensures.ids c.requires

pub returns-in-Ok-clause-count : goal.returns-in-Ok-clause-count
returns-in-Ok-clause-count g c = c.in-Ok.ids.ok.0 ∙ ap length c.in-Ok.ensures.ids ∙ children_count c.args.id c.args.count

pub returns-in-Err-clause-moved : goal.returns-in-Err-clause-moved
returns-in-Err-clause-moved g c = id_lost (g.O.Order.active c.args.order.now) (g.O.Order.active c.make_ids.new.order) c.args.id c.in-Err.ensures.refused c.requires
