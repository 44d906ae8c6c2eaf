use Rattle.std.proofs.Common.{◌∙◌, refl}
use Rattle.vx_sequence.specs.Universe.{Active}
use Rattle.vx_machine_node.specs.Stocks.{item_stock, items_stock}
use Rattle.vx_machine_ids.proofs.MoveLaws.{moved_then, moved_none}
use Rattle.vx_machine_ids.proofs.Lists.{pop_owned, pop_moved, pop_rest}
use Rattle.vx_machine_node.proofs.item.give_up_items.Goals as goal

pub items-init : goal.items-init
items-init g c = record {
  owned = c.requires;
  moved = moved_none (g.O.Order.active c.args.order.now) (items_stock c.args.items.items) c.requires;
  outlet = refl;
  sink = refl;
}

pub give_up_item-requires : goal.give_up_item-requires
give_up_item-requires g c = pop_owned item_stock (g.O.Order.active c.items.order) c.items.items.items c.pop_back.new.self.items c.in-Some.item c.in-Some.ensures.items c.items.invariant.owned

pub items-preserved : goal.items-preserved
items-preserved g c =
    let u : Active = g.O.Order.active c.items.order in
    let v : Active = g.O.Order.active c.give_up_item.new.order in
    record {
      owned = pop_rest item_stock u c.items.items.items c.pop_back.new.self.items c.in-Some.item c.in-Some.ensures.items c.items.invariant.owned v c.give_up_item.ensures.moved;
      moved = moved_then (g.O.Order.active c.args.order.now) u v (items_stock c.args.items.items) (items_stock c.items.items.items) (items_stock c.pop_back.new.self.items) c.items.invariant.moved
          (pop_moved item_stock u c.items.items.items c.pop_back.new.self.items c.in-Some.item c.in-Some.ensures.items c.items.invariant.owned v c.give_up_item.ensures.moved);
      outlet = c.give_up_item.ensures.outlet ∙ c.items.invariant.outlet;
      sink = c.give_up_item.ensures.sink ∙ c.items.invariant.sink;
    }
