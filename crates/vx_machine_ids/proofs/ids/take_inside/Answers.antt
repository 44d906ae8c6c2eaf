use Rattle.std.proofs.Common.{sym, subst}
use Rattle.vx_sequence.specs.Universe.{IsActive}
use Rattle.vx_machine_ids.proofs.CallLaws.{owned_active}
use Rattle.vx_machine_ids.proofs.IdMoves.{below_took, id_gone}
use Rattle.vx_machine_ids.proofs.ids.take_inside.Goals as goal

pub descend-requires : goal.descend-requires
descend-requires g c = owned_active (g.O.Order.active c.args.order.now) c.args.id c.requires

pub release-requires : goal.release-requires
release-requires g c =
    subst (λ u. IsActive u c.in-Err.id) (sym c.in-Err.ensures.unchanged)
    (subst (λ p. IsActive (g.O.Order.active c.args.order.now) p) (sym c.in-Err.ensures.refused.0) (owned_active (g.O.Order.active c.args.order.now) c.args.id c.requires))

pub returns-in-Ok-clause-moved : goal.returns-in-Ok-clause-moved
returns-in-Ok-clause-moved g c =
    below_took (g.O.Order.active c.args.order.now) (g.O.Order.active c.descend.new.self) c.args.id c.in-Ok.pointer c.in-Ok.ensures.rules c.in-Ok.ensures.active c.in-Ok.ensures.pointer.0 c.in-Ok.ensures.pointer.1 c.requires

pub returns-in-Err-clause-moved : goal.returns-in-Err-clause-moved
returns-in-Err-clause-moved g c =
    id_gone (g.O.Order.active c.args.order.now) (g.O.Order.active c.descend.new.self) (g.O.Order.active c.release.new.self) c.args.id c.in-Err.id c.in-Err.ensures.unchanged c.in-Err.ensures.refused.0 c.release.ensures.active c.requires
