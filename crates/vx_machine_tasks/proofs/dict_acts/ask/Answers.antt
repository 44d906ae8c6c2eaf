use Rattle.std.proofs.Common.{[], ◌∙◌}
use Rattle.std.specs.Arc.{arc_value}
use Rattle.std.proofs.lemmas.Result.{err_from_is_err_and}
use Rattle.vx_machine_node.specs.View.{coder_in, item_of, todo_of, mind_of}
use Rattle.vx_machine_task.specs.View.{row}
use Rattle.vx_machine_tasks.proofs.DictActs.{coded_is, asked, asked_why, called_stops}
use Rattle.vx_machine_tasks.proofs.AskShows.{image_may}
use Rattle.vx_machine_tasks.proofs.dict_acts.ask.Goals as goal

pub returns-in_ok-go_on-in-Ok-clause-done : goal.returns-in_ok-go_on-in-Ok-clause-done
returns-in_ok-go_on-in-Ok-clause-done g c = λ s n mind q r.
    let image = g.C.CompressorPlugin.image (g.C.CompressorPlugin.kind c.args.compressor.now) in
    let probe = c.args.probe in
    asked s c.args.name.now mind (coder_in (arc_value probe.node)) probe.pointer (item_of probe.item) (row c.args.kids.now.items) n c.is_dictionary-coded.result (g.O.Order.outlet c.args.order.now)
    (coded_is s image c.deref.result.now (arc_value probe.node) probe.item.chunk c.in-Ok.image c.is_dictionary-coded.result r c.whole.ensures c.deref.ensures c.in-Ok.ensures.image c.is_dictionary-coded.ensures)
    (mind_of c.go_on.new.local) (todo_of c.go_on.new.todo.items) (todo_of c.args.todo.now.items) (row c.go_on.new.kids.items) (g.O.Order.outlet c.go_on.new.order) c.go_on.ensures.outlet
    (c.in_ok-go_on-in-Ok.ensures.done s mind [] q)

pub returns-in_err-go_on-in-Ok-clause-refused : goal.returns-in_err-go_on-in-Ok-clause-refused
returns-in_err-go_on-in-Ok-clause-refused g c =
    let p = err_from_is_err_and c.from_residual.result c.from_residual.ensures.1 in
    let image = g.C.CompressorPlugin.image (g.C.CompressorPlugin.kind c.args.compressor.now) in
    let probe = c.args.probe in
    rw (p.1, p.2) (λ s n mind q r.
    asked_why s c.args.name.now mind (coder_in (arc_value probe.node)) probe.pointer (item_of probe.item) (row c.args.kids.now.items) n c.is_dictionary-coded.result (g.O.Order.outlet c.args.order.now)
    (coded_is s image c.deref.result.now (arc_value probe.node) probe.item.chunk c.in-Ok.image c.is_dictionary-coded.result r c.whole.ensures c.deref.ensures c.in-Ok.ensures.image c.is_dictionary-coded.ensures)
    c.in_err-go_on-in-Ok.field-0.0 (c.in_err-go_on-in-Ok.ensures.refused s mind q))

pub returns-in_err-go_on-in-Ok-clause-cause : goal.returns-in_err-go_on-in-Ok-clause-cause
returns-in_err-go_on-in-Ok-clause-cause g c =
    let p = err_from_is_err_and c.from_residual.result c.from_residual.ensures.1 in
    rw (p.1, p.2) (image_may c.in_err-go_on-in-Ok.field-0.0 c.in_err-go_on-in-Ok.ensures.cause)

pub returns-in_err-go_on-in-Ok-clause-pressed : goal.returns-in_err-go_on-in-Ok-clause-pressed
returns-in_err-go_on-in-Ok-clause-pressed g c =
    let p = err_from_is_err_and c.from_residual.result c.from_residual.ensures.1 in
    rw (p.1, p.2) (called_stops _ _ _ _ _ _ c.in_err-go_on-in-Ok.field-0.0 c.in_err-go_on-in-Ok.ensures.cause c.in-Ok.ensures.told)
