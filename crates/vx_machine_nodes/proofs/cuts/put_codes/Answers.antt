use Rattle.std.proofs.Common.{refl, sym, subst}
use Rattle.vx_machine_ids.specs.Stock.{end_stock}
use Rattle.vx_machine_nodes.specs.Runs.{CutRefused}
use Rattle.vx_machine_node.specs.Stocks.{item_stock, run_stock}
use Rattle.vx_machine_nodes.proofs.RunSteps.{put_moved, open_moved, put_reserved, began_eof}
use Rattle.vx_machine_nodes.proofs.cuts.put_codes.Goals as goal

pub returns-then-runs-clause-moved : goal.returns-then-runs-clause-moved
returns-then-runs-clause-moved g c =
    put_moved (g.O.Order.active c.args.order.now) (end_stock c.args.runs.now.pointer) (item_stock c.args.item) c.args.todo.now.items c.reserve.new.self.items c.push_back_reserved.new.self.items _
    c.reserve.ensures.items c.push_back_reserved.ensures.items refl c.requires.owned

pub returns-then-runs-clause-reserved : goal.returns-then-runs-clause-reserved
returns-then-runs-clause-reserved g c = put_reserved c.args.todo.now.items c.reserve.new.self.items c.push_back_reserved.new.self.items _ c.reserve.ensures.items c.push_back_reserved.ensures.items refl

pub returns-in-Ok-clause-moved : goal.returns-in-Ok-clause-moved
returns-in-Ok-clause-moved g c =
    open_moved (g.O.Order.active c.args.order.now) (g.O.Order.active c.begin_run.new.order) (end_stock c.args.runs.now.pointer) (end_stock c.begin_run.new.pointer) (run_stock c.in-Ok.run') (item_stock c.args.item)
    c.args.todo.now.items c.reserve.new.self.items c.push_back_reserved-in-Ok.new.self.items _ c.reserve.ensures.items c.push_back_reserved-in-Ok.ensures.items refl c.requires.owned c.in-Ok.ensures.moved

pub returns-in-Ok-clause-reserved : goal.returns-in-Ok-clause-reserved
returns-in-Ok-clause-reserved g c =
    put_reserved c.args.todo.now.items c.reserve.new.self.items c.push_back_reserved-in-Ok.new.self.items _ c.reserve.ensures.items c.push_back_reserved-in-Ok.ensures.items refl

pub returns-in-Err-begin_run-clause-refused : goal.returns-in-Err-begin_run-clause-refused
returns-in-Err-begin_run-clause-refused g c = λ k below.
    subst (λ n. CutRefused n below c.in-Err-begin_run.error) (sym (began_eof c.args.runs.now k c.args.item.chunk c.if-runs.false)) (c.in-Err-begin_run.ensures.refused below)
