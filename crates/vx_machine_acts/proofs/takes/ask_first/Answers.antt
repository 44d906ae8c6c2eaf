use Rattle.std.proofs.Common.{◌≡◌, sym, ap, ◌∙◌}
use Rattle.std.proofs.lemmas.Bool.{true≢false}
use Rattle.vx_machine_ids.specs.Stock.{both, end_stock}
use Rattle.vx_machine_ids.proofs.MoveLaws.{owned_as, moved_as}
use Rattle.vx_machine_ids.proofs.Stocks.{none_both}
use Rattle.vx_machine_nodes.specs.Acting.{is_probe}
use Rattle.vx_machine_node.specs.Ledger.{local_reserved}
use Rattle.vx_machine_node.specs.Stocks.{item_stock, dues_stock, local_stock}
use Rattle.vx_machine_node.specs.View.{todo_of}
use Rattle.vx_machine_node.specs.declared.node.Local.TheVariants.{Probe, Asking}
use Rattle.vx_machine_acts.proofs.StopSteps.{took_each, refused_each}
use Rattle.vx_machine_acts.proofs.TakeShows.{unprobed}
use Rattle.vx_machine_acts.proofs.takes.ask_first.Goals as goal

pub unreachable-requires : goal.unreachable-requires
unreachable-requires g c = true≢false (sym (ap is_probe c.replace.ensures.value ∙ c.requires.probe) ∙ unprobed c.replace.result c.in_default.not-Probe)

pub take_probe-requires : goal.take_probe-requires
take_probe-requires g c =
    owned_as (g.O.Order.active c.args.order.now) (both (both (local_stock c.args.local.now) (dues_stock c.args.todo.now.items)) (item_stock c.args.item))
    (both (both (end_stock c.in-Probe.pointer) (dues_stock c.args.todo.now.items)) (item_stock c.args.item))
    (ap (λ l. both (both (local_stock l) (dues_stock c.args.todo.now.items)) (item_stock c.args.item)) (sym c.replace.ensures.value ∙ c.in-Probe.is)) c.requires.owned

pub returns-clause-moved : goal.returns-clause-moved
returns-clause-moved g c =
    moved_as (g.O.Order.active c.args.order.now) (g.O.Order.active c.take_probe.new.order) (both (both (end_stock c.in-Probe.pointer) (dues_stock c.args.todo.now.items)) (item_stock c.args.item))
    (both (both (local_stock c.args.local.now) (dues_stock c.args.todo.now.items)) (item_stock c.args.item)) (dues_stock c.take_probe.new.todo.items)
    (both (local_stock c.replace.new.dest) (dues_stock c.take_probe.new.todo.items))
    (sym (ap (λ l. both (both (local_stock l) (dues_stock c.args.todo.now.items)) (item_stock c.args.item)) (sym c.replace.ensures.value ∙ c.in-Probe.is)))
    (sym (none_both (dues_stock c.take_probe.new.todo.items)) ∙ ap (λ z. both z (dues_stock c.take_probe.new.todo.items)) (sym (ap local_stock c.replace.ensures.after))) c.take_probe.ensures.moved

pub returns-clause-unreserved : goal.returns-clause-unreserved
returns-clause-unreserved g c = (ap local_reserved (sym c.replace.ensures.value ∙ c.in-Probe.is), ap local_reserved c.replace.ensures.after)

pub returns-clause-done : goal.returns-clause-done
returns-clause-done g c =
    took_each c.args.item c.args.local.now (Probe c.in-Probe.node c.in-Probe.pointer) (sym c.replace.ensures.value ∙ c.in-Probe.is) Asking c.replace.new.dest
    (todo_of c.take_probe.new.todo.items) (todo_of c.args.todo.now.items) c.replace.ensures.after c.take_probe.result c.take_probe.ensures.done

pub returns-clause-refused : goal.returns-clause-refused
returns-clause-refused g c =
    refused_each c.args.item c.args.local.now (Probe c.in-Probe.node c.in-Probe.pointer) (sym c.replace.ensures.value ∙ c.in-Probe.is) c.take_probe.result c.take_probe.ensures.refused
