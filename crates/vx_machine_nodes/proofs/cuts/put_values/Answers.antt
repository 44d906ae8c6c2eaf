use Rattle.std.proofs.Common.{refl}
use Rattle.vx_machine_node.specs.Stocks.{item_stock}
use Rattle.vx_machine_nodes.proofs.RunSteps.{last_moved, put_reserved}
use Rattle.vx_machine_nodes.proofs.cuts.put_values.Goals as goal

pub returns-clause-moved : goal.returns-clause-moved
returns-clause-moved g c =
    last_moved (g.O.Order.active c.args.order.now) (item_stock c.args.item) c.args.todo.now.items c.reserve.new.self.items c.push_back_reserved.new.self.items _ c.reserve.ensures.items c.push_back_reserved.ensures.items refl c.requires.owned

pub returns-clause-reserved : goal.returns-clause-reserved
returns-clause-reserved g c = put_reserved c.args.todo.now.items c.reserve.new.self.items c.push_back_reserved.new.self.items _ c.reserve.ensures.items c.push_back_reserved.ensures.items refl
