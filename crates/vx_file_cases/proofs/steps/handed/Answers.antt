use Rattle.std.proofs.Common.{◌≡◌, ◌≤◌, ℕ, length, sym, subst, arith}
use Rattle.vx_sequence.specs.Universe.{Active}
use Rattle.vx_machine_ids.specs.Stock.{both, id_stock, ids_stock, end_stock}
use Rattle.vx_machine_ids.specs.Balance.{Owned}
use Rattle.vx_machine_ids.proofs.Stocks.{both_swap}
use Rattle.vx_machine_ids.proofs.MoveLaws.{owned_right, owned_now, owned_as, moved_behind, moved_drop}
use Rattle.vx_machine_view.specs.Machine.{Machine as Plain}
use Rattle.vx_machine.specs.Names.{HasNames}
use Rattle.vx_file_cases.proofs.steps.handed.Goals as goal

pub take_children-requires : goal.take_children-requires
take_children-requires g c =
    let u : Active = g.O.Order.active c.args.order.now in
    let v : Active = g.O.Order.active c.take_id.new.order in
    owned_right v (end_stock c.take_id.new.pointer) (id_stock c.in-Ok.id) (owned_now u v (end_stock c.args.eof) (both (end_stock c.take_id.new.pointer) (id_stock c.in-Ok.id)) c.requires.owned c.in-Ok.ensures.moved)

pub start_at-requires : goal.start_at-requires
start_at-requires g c =
    let u : Active = g.O.Order.active c.args.order.now in
    let v : Active = g.O.Order.active c.take_id.new.order in
    let w : Active = g.O.Order.active c.take_children.new.order in
    let e = c.take_id.new.pointer in
    let ids = c.in-Ok-take_children.ids.items in
    let o : Owned v (both (end_stock e) (id_stock c.in-Ok.id)) = owned_now u v (end_stock c.args.eof) (both (end_stock e) (id_stock c.in-Ok.id)) c.requires.owned c.in-Ok.ensures.moved in
    owned_as w (both (end_stock e) (ids_stock ids)) (both (ids_stock ids) (end_stock e)) (both_swap (end_stock e) (ids_stock ids))
    (owned_now v w (both (end_stock e) (id_stock c.in-Ok.id)) (both (end_stock e) (ids_stock ids)) o (moved_behind v w (end_stock e) (id_stock c.in-Ok.id) (ids_stock ids) o c.in-Ok-take_children.ensures.moved))

pub give_up_pointer-requires-in-Err-take_children : goal.give_up_pointer-requires-in-Err-take_children
give_up_pointer-requires-in-Err-take_children g c =
    let u : Active = g.O.Order.active c.args.order.now in
    let v : Active = g.O.Order.active c.take_id.new.order in
    let w : Active = g.O.Order.active c.take_children.new.order in
    let e = c.take_id.new.pointer in
    let o : Owned v (both (end_stock e) (id_stock c.in-Ok.id)) = owned_now u v (end_stock c.args.eof) (both (end_stock e) (id_stock c.in-Ok.id)) c.requires.owned c.in-Ok.ensures.moved in
    owned_now v w (both (end_stock e) (id_stock c.in-Ok.id)) (end_stock e) o (moved_drop v w (end_stock e) (id_stock c.in-Ok.id) o c.in-Err-take_children.ensures.moved)

pub stepped-requires-clause-enough : goal.stepped-requires-clause-enough
stepped-requires-clause-enough g c =
    let n : ℕ = g.B.BatchSource.left c.args.source.now in
    let enough : n ≤ length c.in-Ok-take_children.ids.items = omega (arith, c.requires.enough, c.in-Ok-take_children.ensures.count, c.in-Ok-take_children.ids.ok.0, c.saturating_add.ensures) in
    subst (λ (z : Plain). HasNames z.phase n) (sym c.in-Ok-start_at.ensures.shows) enough
