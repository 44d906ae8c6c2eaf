use Rattle.std.proofs.Common.{◌∙◌, refl}
use Rattle.vx_sequence.specs.Universe.{Active}
use Rattle.vx_machine_ids.specs.Stock.{id_stock, ids_stock}
use Rattle.vx_machine_ids.proofs.MoveLaws.{moved_then, moved_none}
use Rattle.vx_machine_ids.proofs.Lists.{pop_owned, pop_moved, pop_rest}
use Rattle.vx_machine.proofs.names.give_up_ids.Goals as goal

pub ids-init : goal.ids-init
ids-init g c = record {
  owned = c.requires;
  moved = moved_none (g.O.Order.active c.args.order.now) (ids_stock c.args.ids.items) c.requires;
  outlet = refl;
  sink = refl;
}

pub give_up_id-requires : goal.give_up_id-requires
give_up_id-requires g c = pop_owned id_stock (g.O.Order.active c.ids.order) c.ids.ids.items c.pop_back.new.self.items c.in-Some.id c.in-Some.ensures.items c.ids.invariant.owned

pub ids-preserved : goal.ids-preserved
ids-preserved g c =
    let u : Active = g.O.Order.active c.ids.order in
    let v : Active = g.O.Order.active c.give_up_id.new.order in
    record {
      owned = pop_rest id_stock u c.ids.ids.items c.pop_back.new.self.items c.in-Some.id c.in-Some.ensures.items c.ids.invariant.owned v c.give_up_id.ensures.moved;
      moved = moved_then (g.O.Order.active c.args.order.now) u v (ids_stock c.args.ids.items) (ids_stock c.ids.ids.items) (ids_stock c.pop_back.new.self.items) c.ids.invariant.moved
          (pop_moved id_stock u c.ids.ids.items c.pop_back.new.self.items c.in-Some.id c.in-Some.ensures.items c.ids.invariant.owned v c.give_up_id.ensures.moved);
      outlet = c.give_up_id.ensures.outlet ∙ c.ids.invariant.outlet;
      sink = c.give_up_id.ensures.sink ∙ c.ids.invariant.sink;
    }
