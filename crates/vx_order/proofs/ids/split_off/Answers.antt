use Rattle.std.proofs.Common.{inl}
use Rattle.std.proofs.lemmas.Result.{err_from_is_err_and}
use Rattle.vx_order.proofs.Splits.{off_is, id_is_active, split_is_made, id_is_lost}
use Rattle.vx_order.proofs.ids.split_off.Goals as goal

pub descend-requires : goal.descend-requires
descend-requires g c = id_is_active (g.O.Order.active c.args.order.now) (g.O.Order.active c.advance.new.self) c.args.p.now c.in_ok-id.id
    c.in_ok-id.ensures.active c.in_ok-id.ensures.id

pub release-requires : goal.release-requires
release-requires g c = rw (c.in-Err.ensures.unchanged, c.in-Err.ensures.refused.0)
    (id_is_active (g.O.Order.active c.args.order.now) (g.O.Order.active c.advance.new.self) c.args.p.now c.in_ok-id.id
    c.in_ok-id.ensures.active c.in_ok-id.ensures.id)

pub returns-in_err-id-clause-refused : goal.returns-in_err-id-clause-refused
returns-in_err-id-clause-refused g c =
    let p = err_from_is_err_and c.from_residual.result c.from_residual.ensures.1 in
    rw p.1 (inl c.in_err-id.ensures.unchanged)

pub returns-in-Ok-clause-off : goal.returns-in-Ok-clause-off
returns-in-Ok-clause-off g c = off_is c.in-Ok.off c.args.p.now c.in_ok-id.id c.in_ok-id.ensures.id c.in-Ok.ensures.pointer

pub returns-in-Ok-clause-active : goal.returns-in-Ok-clause-active
returns-in-Ok-clause-active g c = split_is_made (g.O.Order.active c.args.order.now) (g.O.Order.active c.advance.new.self)
    (g.O.Order.active c.descend.new.self) c.args.p.now c.in_ok-id.id c.in_ok-id.ensures.active c.in_ok-id.ensures.id c.in-Ok.ensures.active

pub returns-in-Err-clause-refused : goal.returns-in-Err-clause-refused
returns-in-Err-clause-refused g c = id_is_lost (g.O.Order.active c.args.order.now) (g.O.Order.active c.advance.new.self)
    (g.O.Order.active c.descend.new.self) (g.O.Order.active c.release.new.self) c.args.p.now c.advance.new.p c.in_ok-id.id c.in-Err.id
    c.in_ok-id.ensures.active c.in_ok-id.ensures.id c.in-Err.ensures.unchanged c.in-Err.ensures.refused.0 c.release.ensures.active c.in_ok-id.ensures.pointer
