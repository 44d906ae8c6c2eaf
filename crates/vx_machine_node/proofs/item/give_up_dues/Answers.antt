use Rattle.std.proofs.Common.{◌∙◌, refl, arith}
use Rattle.vx_sequence.specs.Universe.{Active}
use Rattle.vx_machine_node.specs.Stocks.{due_stock, dues_stock}
use Rattle.vx_machine_ids.proofs.MoveLaws.{moved_then, moved_none}
use Rattle.vx_machine_ids.proofs.Lists.{pop_owned, pop_moved, pop_rest}
use Rattle.vx_machine_node.proofs.ReservedSteps.{dues_push}
use Rattle.vx_machine_node.proofs.item.give_up_dues.Goals as goal

pub dues-init : goal.dues-init
dues-init g c = record {
  owned = c.requires.owned;
  moved = moved_none (g.O.Order.active c.args.order.now) (dues_stock c.args.dues.items) c.requires.owned;
  reserved = c.requires.reserved;
  tracked = refl;
  context = refl;
  outlet = refl;
  sink = refl;
}

pub give_up_due-requires-clause-owned : goal.give_up_due-requires-clause-owned
give_up_due-requires-clause-owned g c = pop_owned due_stock (g.O.Order.active c.dues.order) c.dues.dues.items c.pop_back.new.self.items c.in-Some.due c.in-Some.ensures.items c.dues.invariant.owned

pub give_up_due-requires-clause-reserved : goal.give_up_due-requires-clause-reserved
give_up_due-requires-clause-reserved g c = omega (arith, dues_push c.dues.dues.items c.pop_back.new.self.items c.in-Some.due c.in-Some.ensures.items, c.dues.invariant.reserved)

pub dues-preserved : goal.dues-preserved
dues-preserved g c =
    let u : Active = g.O.Order.active c.dues.order in
    let v : Active = g.O.Order.active c.give_up_due.new.order in
    record {
      owned = pop_rest due_stock u c.dues.dues.items c.pop_back.new.self.items c.in-Some.due c.in-Some.ensures.items c.dues.invariant.owned v c.give_up_due.ensures.moved;
      moved = moved_then (g.O.Order.active c.args.order.now) u v (dues_stock c.args.dues.items) (dues_stock c.dues.dues.items) (dues_stock c.pop_back.new.self.items) c.dues.invariant.moved
          (pop_moved due_stock u c.dues.dues.items c.pop_back.new.self.items c.in-Some.due c.in-Some.ensures.items c.dues.invariant.owned v c.give_up_due.ensures.moved);
      reserved = omega (arith, dues_push c.dues.dues.items c.pop_back.new.self.items c.in-Some.due c.in-Some.ensures.items, c.dues.invariant.reserved, c.give_up_due.ensures.tracked);
      tracked = omega (arith, dues_push c.dues.dues.items c.pop_back.new.self.items c.in-Some.due c.in-Some.ensures.items, c.dues.invariant.tracked, c.give_up_due.ensures.tracked);
      context = c.give_up_due.ensures.context ∙ c.dues.invariant.context;
      outlet = c.give_up_due.ensures.outlet ∙ c.dues.invariant.outlet;
      sink = c.give_up_due.ensures.sink ∙ c.dues.invariant.sink;
    }
