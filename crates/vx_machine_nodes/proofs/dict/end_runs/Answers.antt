use Rattle.std.proofs.Common.{ℕ, List, refl, ap, ◌∙◌}
use Rattle.std.specs.Arc.{arc_value}
use Rattle.vx_model.specs.TyView.{ty}
use Rattle.vx_machine_state.specs.State.{join_kids, fold_runs}
use Rattle.vx_machine_ids.specs.Stock.{end_stock}
use Rattle.vx_machine_node.specs.Stocks.{item_stock}
use Rattle.vx_machine_node.specs.View.{todo_of}
use Rattle.vx_machine_nodes.proofs.RunSteps.{pushed, put_reserved}
use Rattle.vx_machine_nodes.proofs.RunTakes.{runs_ended, end_why, end_moved}
use Rattle.vx_machine_nodes.proofs.dict.end_runs.Goals as goal

pub returns-in-Ok-reserve-clause-done : goal.returns-in-Ok-reserve-clause-done
returns-in-Ok-reserve-clause-done g c = λ kids.
    runs_ended c.args.runs c.cut-cut.new.runs (todo_of c.cut-cut.new.todo.items) (todo_of c.args.todo.now.items) (todo_of c.push_back_reserved.new.self.items) c.in-Ok.ensures.runs c.in-Ok.ensures.todo c.cut-cut.ensures.eofs c.in-Ok.ensures.fits
    (pushed c.cut-cut.new.todo.items c.reserve.new.self.items c.push_back_reserved.new.self.items _ _ c.reserve.ensures.items c.push_back_reserved.ensures.items
    (ap (λ (rows : List ℕ). join_kids (fold_runs (ty (arc_value (arc_value c.args.runs.node).dtype)) rows)) c.into_ended-ended.ensures.ended)) kids

pub returns-in-Ok-reserve-clause-moved : goal.returns-in-Ok-reserve-clause-moved
returns-in-Ok-reserve-clause-moved g c =
    end_moved (g.O.Order.active c.args.order.now) (g.O.Order.active c.cut-cut.new.order) (g.O.Order.active c.into_ended-ended.new.order) (item_stock c.args.runs.newest) (end_stock c.args.runs.runs.pointer) (end_stock c.cut-cut.new.runs.pointer)
    c.args.todo.now.items c.cut-cut.new.todo.items c.reserve.new.self.items c.push_back_reserved.new.self.items _ c.reserve.ensures.items c.push_back_reserved.ensures.items refl c.requires c.cut-cut.ensures.moved c.into_ended-ended.ensures.moved

pub returns-in-Ok-reserve-clause-reserved : goal.returns-in-Ok-reserve-clause-reserved
returns-in-Ok-reserve-clause-reserved g c =
    put_reserved c.cut-cut.new.todo.items c.reserve.new.self.items c.push_back_reserved.new.self.items _ c.reserve.ensures.items c.push_back_reserved.ensures.items refl ∙ c.cut-cut.ensures.reserved

pub returns-in-Err-clause-refused : goal.returns-in-Err-clause-refused
returns-in-Err-clause-refused g c = λ kids. end_why c.args.runs kids c.in-Err.error c.in-Err.ensures.refused
