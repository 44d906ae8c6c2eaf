use Rattle.std.proofs.Common.{refl, ◌∙◌, arith}
use Rattle.vx_machine_ids.specs.Stock.{both, end_stock}
use Rattle.vx_machine_node.specs.Stocks.{dues_stock}
use Rattle.vx_machine_node.specs.View.{todo_of}
use Rattle.vx_machine_node.proofs.DueSteps.{one_more, one_free}
use Rattle.vx_machine_node.proofs.ReservedSteps.{dues_push}
use Rattle.vx_machine_nodes.proofs.ZoneSteps.{kept_behind, three_more, zones_end_some}
use Rattle.vx_machine_nodes.proofs.zoned.end_zoned.Goals as goal

pub returns-in-Ok-Some-clause-moved : goal.returns-in-Ok-Some-clause-moved
returns-in-Ok-Some-clause-moved g c =
    kept_behind (g.O.Order.active c.args.order.now) (end_stock c.args.node.eof) (dues_stock c.args.todo.now.items) (dues_stock c.push_back_reserved-in-Ok-Some-2.new.self.items)
    (one_free c.push_back_reserved-in-Ok-Some.new.self.items c.push_back_reserved-in-Ok-Some-2.new.self.items _ c.push_back_reserved-in-Ok-Some-2.ensures.items refl
    ∙ one_more c.push_back_reserved.new.self.items c.push_back_reserved-in-Ok-Some.new.self.items _ c.push_back_reserved-in-Ok-Some.ensures.items
    ∙ (λ j. both (one_free c.args.todo.now.items c.push_back_reserved.new.self.items _ c.push_back_reserved.ensures.items refl j) (end_stock c.args.node.eof))) c.requires.owned

pub returns-in-Ok-Some-clause-reserved : goal.returns-in-Ok-Some-clause-reserved
returns-in-Ok-Some-clause-reserved g c =
    omega (
      arith,
      dues_push c.push_back_reserved.new.self.items c.args.todo.now.items _ c.push_back_reserved.ensures.items,
      dues_push c.push_back_reserved-in-Ok-Some.new.self.items c.push_back_reserved.new.self.items _ c.push_back_reserved-in-Ok-Some.ensures.items,
      dues_push c.push_back_reserved-in-Ok-Some-2.new.self.items c.push_back_reserved-in-Ok-Some.new.self.items _ c.push_back_reserved-in-Ok-Some-2.ensures.items,
    )

pub returns-in-Ok-Some-clause-done : goal.returns-in-Ok-Some-clause-done
returns-in-Ok-Some-clause-done g c = λ kids.
    zones_end_some c.args.node kids (todo_of c.push_back_reserved-in-Ok-Some-2.new.self.items) (todo_of c.args.todo.now.items) c.in-Ok-Some.chunk c.in-Ok-Some.aggregates.items
    (rw c.in-Ok-Some.field-0-is at c.in-Ok-Some.ensures.table) c.in-Ok-Some.ensures.few
    (three_more c.args.todo.now.items c.push_back_reserved.new.self.items c.push_back_reserved-in-Ok-Some.new.self.items c.push_back_reserved-in-Ok-Some-2.new.self.items _ _ _
    c.push_back_reserved.ensures.items c.push_back_reserved-in-Ok-Some.ensures.items c.push_back_reserved-in-Ok-Some-2.ensures.items)

pub returns-in-Ok-None-clause-moved : goal.returns-in-Ok-None-clause-moved
returns-in-Ok-None-clause-moved g c =
    kept_behind (g.O.Order.active c.args.order.now) (end_stock c.args.node.eof) (dues_stock c.args.todo.now.items) (dues_stock c.push_back_reserved-in-Ok-None-2.new.self.items)
    (one_more c.push_back_reserved-in-Ok-None.new.self.items c.push_back_reserved-in-Ok-None-2.new.self.items _ c.push_back_reserved-in-Ok-None-2.ensures.items
    ∙ (λ j. both (one_free c.args.todo.now.items c.push_back_reserved-in-Ok-None.new.self.items _ c.push_back_reserved-in-Ok-None.ensures.items refl j) (end_stock c.args.node.eof))) c.requires.owned

pub returns-in-Ok-None-clause-reserved : goal.returns-in-Ok-None-clause-reserved
returns-in-Ok-None-clause-reserved g c =
    omega (
      arith,
      dues_push c.push_back_reserved-in-Ok-None.new.self.items c.args.todo.now.items _ c.push_back_reserved-in-Ok-None.ensures.items,
      dues_push c.push_back_reserved-in-Ok-None-2.new.self.items c.push_back_reserved-in-Ok-None.new.self.items _ c.push_back_reserved-in-Ok-None-2.ensures.items,
    )
