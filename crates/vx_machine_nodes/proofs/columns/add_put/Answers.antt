use Rattle.std.proofs.Common.{◌≡◌, ◌+◌, refl, ap, arith}
use Rattle.vx_machine_node.specs.Ledger.{dues_reserved}
use Rattle.vx_machine_node.proofs.DueSteps.{put_stock}
use Rattle.vx_machine_nodes.proofs.PutSteps.{put_last}
use Rattle.vx_machine_nodes.proofs.columns.add_put.Goals as goal

pub returns-clause-stock : goal.returns-clause-stock
returns-clause-stock c = put_stock c.args.ids.now.items c.pop.new.self.items c.in-Some.id c.args.todo.now.items c.push_front_reserved.new.self.items _ c.in-Some.ensures.items c.push_front_reserved.ensures.items refl

pub returns-clause-next : goal.returns-clause-next
returns-clause-next c = λ p is.
    put_last p c.args.ids.now c.pop.new.self c.in-Some.id c.args.todo.now.items c.push_front_reserved.new.self.items c.args.chunk c.len.result c.in-Some.ensures.items c.in-Some.ensures.cases is
    c.push_front_reserved.ensures.items c.len.ensures

pub returns-clause-reserved : goal.returns-clause-reserved
returns-clause-reserved c =
    let r : dues_reserved c.push_front_reserved.new.self.items ≡ 0 + dues_reserved c.args.todo.now.items = ap dues_reserved c.push_front_reserved.ensures.items in
    omega (arith, r)
