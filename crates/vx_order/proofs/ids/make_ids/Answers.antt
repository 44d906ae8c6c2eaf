use Rattle.std.proofs.Common.{ap, ◌∙◌, vec_len}
use Rattle.vx_sequence.specs.Universe.{released}
use Rattle.vx_order.specs.Ids.{with_children}
use Rattle.vx_order.proofs.Children.{IdsMade, first_open, first_made, last_active, ids_made}
use Rattle.vx_order.proofs.ids.make_ids.Goals as goal

pub advance_times-made-requires-clause-open : goal.advance_times-made-requires-clause-open
advance_times-made-requires-clause-open g c = first_open (g.O.Order.active c.args.order.now) c.args.id c.descend.ensures.rules c.requires
    (g.O.Order.active c.descend.new.self) c.in-Ok-descend.pointer c.in-Ok-descend.ensures.active c.in-Ok-descend.ensures.pointer

pub release-requires-in-Ok-descend : goal.release-requires-in-Ok-descend
release-requires-in-Ok-descend g c =
    last_active (g.O.Order.active c.args.order.now) c.args.id c.descend.ensures.rules c.requires
    (g.O.Order.active c.descend.new.self) c.in-Ok-descend.pointer c.in-Ok-descend.ensures.active c.in-Ok-descend.ensures.pointer
    (g.O.Order.active c.advance_times-made.new.order) c.advance_times-made.new.pointer (vec_len c.advance_times-made.new.ids)
    (c.advance_times-made.ensures.active (released (g.O.Order.active c.args.order.now) c.args.id)
    (first_made (g.O.Order.active c.args.order.now) c.args.id c.descend.ensures.rules c.requires
    (g.O.Order.active c.descend.new.self) c.in-Ok-descend.pointer c.in-Ok-descend.ensures.active c.in-Ok-descend.ensures.pointer))
    c.advance_times-made.ensures.pointer c.downgrade.result c.downgrade.ensures

pub release_all-requires : goal.release_all-requires
release_all-requires g c =
    let made : IdsMade (g.O.Order.active c.args.order.now) c.args.id (g.O.Order.active c.release-in-Ok-descend.new.self) c.advance_times-made.new.ids.items
    (vec_len c.advance_times-made.new.ids) =
    ids_made (g.O.Order.active c.args.order.now) c.args.id c.descend.ensures.rules c.requires
    (g.O.Order.active c.descend.new.self) c.in-Ok-descend.pointer c.in-Ok-descend.ensures.active c.in-Ok-descend.ensures.pointer
    (g.O.Order.active c.advance_times-made.new.order) c.advance_times-made.new.pointer (vec_len c.advance_times-made.new.ids)
    c.advance_times-made.ensures.active c.advance_times-made.ensures.pointer c.downgrade.result c.downgrade.ensures
    (g.O.Order.active c.release-in-Ok-descend.new.self) c.release-in-Ok-descend.ensures.active c.advance_times-made.new.ids.items c.advance_times-made.ensures.ids in
    made.can

pub returns-in-Ok-made-clause-active : goal.returns-in-Ok-made-clause-active
returns-in-Ok-made-clause-active g c =
    let made : IdsMade (g.O.Order.active c.args.order.now) c.args.id (g.O.Order.active c.release-in-Ok-descend.new.self) c.advance_times-made.new.ids.items
    (vec_len c.advance_times-made.new.ids) =
    ids_made (g.O.Order.active c.args.order.now) c.args.id c.descend.ensures.rules c.requires
    (g.O.Order.active c.descend.new.self) c.in-Ok-descend.pointer c.in-Ok-descend.ensures.active c.in-Ok-descend.ensures.pointer
    (g.O.Order.active c.advance_times-made.new.order) c.advance_times-made.new.pointer (vec_len c.advance_times-made.new.ids)
    c.advance_times-made.ensures.active c.advance_times-made.ensures.pointer c.downgrade.result c.downgrade.ensures
    (g.O.Order.active c.release-in-Ok-descend.new.self) c.release-in-Ok-descend.ensures.active c.advance_times-made.new.ids.items c.advance_times-made.ensures.ids in
    made.left ∙ ap (with_children (released (g.O.Order.active c.args.order.now) c.args.id) c.args.id) c.in-Ok-made.ensures.all

pub returns-in-Err-made-clause-refused : goal.returns-in-Err-made-clause-refused
returns-in-Err-made-clause-refused g c =
    let made : IdsMade (g.O.Order.active c.args.order.now) c.args.id (g.O.Order.active c.release-in-Ok-descend.new.self) c.advance_times-made.new.ids.items
    (vec_len c.advance_times-made.new.ids) =
    ids_made (g.O.Order.active c.args.order.now) c.args.id c.descend.ensures.rules c.requires
    (g.O.Order.active c.descend.new.self) c.in-Ok-descend.pointer c.in-Ok-descend.ensures.active c.in-Ok-descend.ensures.pointer
    (g.O.Order.active c.advance_times-made.new.order) c.advance_times-made.new.pointer (vec_len c.advance_times-made.new.ids)
    c.advance_times-made.ensures.active c.advance_times-made.ensures.pointer c.downgrade.result c.downgrade.ensures
    (g.O.Order.active c.release-in-Ok-descend.new.self) c.release-in-Ok-descend.ensures.active c.advance_times-made.new.ids.items c.advance_times-made.ensures.ids in
    c.release_all.ensures.active ∙ made.gone
