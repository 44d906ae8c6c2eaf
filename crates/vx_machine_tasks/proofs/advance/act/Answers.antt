use Rattle.std.proofs.Common.{◌≡◌, ◌+◌, suc, List, length, true, sym, ap, subst, ◌∙◌, refl, arith}
use Rattle.std.proofs.lemmas.Bool.{and_parts}
use Rattle.std.proofs.lemmas.Result.{IfErr-weaker}
use Rattle.vx_sequence.specs.Universe.{Active}
use Rattle.vx_machine_ids.specs.Stock.{both, end_stock}
use Rattle.vx_machine_ids.specs.Balance.{Owned, Moved}
use Rattle.vx_sink.specs.ContextView.{listed}
use Rattle.vx_write_answer.specs.declared.step.ActionKind.TheVariants as actions
use Rattle.vx_machine_tasks.specs.Pairs.{due_pairs, AllMay}
use Rattle.vx_machine_task.specs.Ready.{Kid, may_due, kids_of, room_at, all_made, can_join}
use Rattle.vx_machine_node.specs.Ledger.{some_bytes, due_reserved}
use Rattle.vx_machine_node.specs.Stocks.{item_stock, stored_stock, table_stock, run_stock, due_stock, dues_stock, local_stock}
use Rattle.vx_machine_node.specs.View.{todo_of}
use Rattle.vx_machine_task.specs.Stocks.{tasks_stock}
use Rattle.vx_machine_node.specs.declared.item.Due.{Due}
use Rattle.vx_machine_node.specs.declared.item.Due.TheVariants.{Put, HandOn, Press, Append, Join, Table, Ask, OpenRun, EndRun}
use Rattle.vx_machine_node.specs.declared.node.Shape.{Shape}
use Rattle.vx_machine_acts.proofs.ActMoves.{put_owned, put_moved, append_owned, append_moved, press_owned, press_moved, leave_owned, leave_moved, join_owned, join_moved, close_moved}
use Rattle.vx_machine_node.specs.Causes.{AppendMay, PressMay, ActMay}
use Rattle.vx_machine_node.specs.Context.{setting_of}
use Rattle.vx_machine_nodes.proofs.ActCauses.{memory_may, all_wider, all_append, append_wider, press_wider}
use Rattle.vx_machine_nodes.proofs.CallSteps.{unasked_self, unasked_by, quiet_told, pressed_told, uncalled}
use Rattle.vx_machine_task.proofs.Readiness.{least_means}
use Rattle.vx_machine_acts.proofs.ActShows.{err_kept, put_does, put_says, hand_does, hand_says, append_does, append_says, close_does, leave_does, press_does, press_says, append_kind, join_does, join_says, join_kind, start_does, start_says, start_kind, ask_does, ask_says, end_does, end_says}
use Rattle.vx_machine_tasks.specs.Asking.{ImageMay}
use Rattle.vx_machine_tasks.proofs.AskShows.{image_wider, image_told}
use Rattle.vx_machine_tasks.proofs.CallShows.{all_calls, none_called, none_appended}
use Rattle.vx_machine_tasks.proofs.advance.act.Goals as goal

by_case : (u : Active) (ks : List Kid) (d e : Due) → d ≡ e → may_due u d ks ≡ true → may_due u e ks ≡ true
by_case u ks d e is h = sym (ap (λ x. may_due u x ks) is) ∙ h

pub put-requires-clause-owned : goal.put-requires-clause-owned
put-requires-clause-owned g c =
    put_owned (g.O.Order.active c.args.order.now) (both (local_stock c.args.local.now) (dues_stock c.args.todo.now.items)) (tasks_stock c.args.kids.now.items) (due_stock c.args.due) (item_stock c.in-Put.item) (ap due_stock c.in-Put.is) c.requires.owned

pub put-requires-clause-room : goal.put-requires-clause-room
put-requires-clause-room g c = by_case (g.O.Order.active c.args.order.now) (kids_of c.args.kids.now.items) c.args.due (Put c.in-Put.child c.in-Put.item) c.in-Put.is c.requires.ready

pub returns-in-Put-clause-moved : goal.returns-in-Put-clause-moved
returns-in-Put-clause-moved g c =
    put_moved (g.O.Order.active c.args.order.now) (both (local_stock c.args.local.now) (dues_stock c.args.todo.now.items)) (tasks_stock c.args.kids.now.items) (due_stock c.args.due) (item_stock c.in-Put.item) (ap due_stock c.in-Put.is) c.requires.owned
    (g.O.Order.active c.put.new.order) (tasks_stock c.put.new.kids.items) c.put.ensures.moved

pub returns-in-Put-clause-told : goal.returns-in-Put-clause-told
returns-in-Put-clause-told g c =
    quiet_told g.O.Sink.Fallible.faults g.O.Sink.Fallible.may_fail g.O.Sink.Fallible.must_fail (g.O.Order.sink c.args.order.now) (g.O.Order.sink c.put.new.order) c.put.ensures.sink actions.Put refl refl c.put.result c.put.ensures.kind (memory_may c.put.result c.put.ensures.memory)

pub returns-in-Put-clause-cause : goal.returns-in-Put-clause-cause
returns-in-Put-clause-cause g c = all_wider c.put.result (memory_may c.put.result c.put.ensures.memory)

pub append_due-requires-clause-owned : goal.append_due-requires-clause-owned
append_due-requires-clause-owned g c =
    append_owned (g.O.Order.active c.args.order.now) (local_stock c.args.local.now) (dues_stock c.args.todo.now.items) (tasks_stock c.args.kids.now.items) (due_stock c.args.due) (stored_stock c.in-Append.stored) (ap due_stock c.in-Append.is) c.requires.owned

pub append_due-requires-clause-least : goal.append_due-requires-clause-least
append_due-requires-clause-least g c =
    least_means (g.O.Order.active c.args.order.now) c.in-Append.stored.id (by_case (g.O.Order.active c.args.order.now) (kids_of c.args.kids.now.items) c.args.due (Append c.in-Append.stored) c.in-Append.is c.requires.ready)

pub append_due-requires-clause-allowed : goal.append_due-requires-clause-allowed
append_due-requires-clause-allowed g c =
    (subst (λ d. AllMay (g.O.Order.may_write c.args.order.now) (due_pairs d)) c.in-Append.is c.requires.allowed).0

pub returns-in-Append-clause-moved : goal.returns-in-Append-clause-moved
returns-in-Append-clause-moved g c =
    append_moved (g.O.Order.active c.args.order.now) (local_stock c.args.local.now) (dues_stock c.args.todo.now.items) (tasks_stock c.args.kids.now.items) (due_stock c.args.due) (stored_stock c.in-Append.stored) (ap due_stock c.in-Append.is) c.requires.owned
    (g.O.Order.active c.append_due.new.order) (local_stock c.append_due.new.local) c.append_due.ensures.moved

pub returns-in-Close-clause-moved : goal.returns-in-Close-clause-moved
returns-in-Close-clause-moved g c =
    close_moved (g.O.Order.active c.args.order.now) (local_stock c.args.local.now) (dues_stock c.args.todo.now.items) (tasks_stock c.args.kids.now.items) (due_stock c.args.due) (ap due_stock c.in-Close.is) c.requires.owned
    (tasks_stock c.close_all.new.kids.items) c.close_all.ensures.stock

pub join_due-requires-clause-owned : goal.join_due-requires-clause-owned
join_due-requires-clause-owned g c =
    join_owned (g.O.Order.active c.args.order.now) (local_stock c.args.local.now) (dues_stock c.args.todo.now.items) (tasks_stock c.args.kids.now.items) (due_stock c.args.due) (ap due_stock c.in-Join.is) c.requires.owned

may_join : (u : Active) (ks : List Kid) (d : Due) (h : Shape) → d ≡ Join h → may_due u d ks ≡ true → (all_made ks ≡ true) × (can_join h (length ks) ≡ true)
may_join u ks d h is m = and_parts (all_made ks) (can_join h (length ks)) (by_case u ks d (Join h) is m)

pub join_due-requires-clause-made : goal.join_due-requires-clause-made
join_due-requires-clause-made g c = (may_join (g.O.Order.active c.args.order.now) (kids_of c.args.kids.now.items) c.args.due c.in-Join.shape c.in-Join.is c.requires.ready).0

pub returns-in-Join-clause-moved : goal.returns-in-Join-clause-moved
returns-in-Join-clause-moved g c =
    join_moved (g.O.Order.active c.args.order.now) (local_stock c.args.local.now) (dues_stock c.args.todo.now.items) (tasks_stock c.args.kids.now.items) (due_stock c.args.due) (ap due_stock c.in-Join.is) c.requires.owned
    (g.O.Order.active c.join_due.new.order) (local_stock c.join_due.new.local) (tasks_stock c.join_due.new.kids.items) c.join_due.ensures.moved

pub returns-in-Close-clause-told : goal.returns-in-Close-clause-told
returns-in-Close-clause-told g c = (refl, unasked_self (g.O.Sink.Fallible.faults (g.O.Order.sink c.args.order.now)) (g.O.Sink.Fallible.may_fail (g.O.Order.sink c.args.order.now)) (g.O.Sink.Fallible.must_fail (g.O.Order.sink c.args.order.now)))

pub returns-in-Join-clause-told : goal.returns-in-Join-clause-told
returns-in-Join-clause-told g c =
    quiet_told g.O.Sink.Fallible.faults g.O.Sink.Fallible.may_fail g.O.Sink.Fallible.must_fail (g.O.Order.sink c.args.order.now) (g.O.Order.sink c.join_due.new.order) c.join_due.ensures.sink actions.Join refl refl c.join_due.result
    (join_kind (setting_of c.args.ctx.now (g.C.CompressorPlugin.image (g.C.CompressorPlugin.kind c.args.compressor.now))) c.in-Join.shape c.args.kids.now.items (g.O.Order.outlet c.args.order.now) (g.O.Order.outlet c.join_due.new.order) c.join_due.new.local c.join_due.new.kids.items c.join_due.result c.join_due.ensures.done)
    c.join_due.ensures.cause

pub returns-in-Append-clause-cause : goal.returns-in-Append-clause-cause
returns-in-Append-clause-cause g c = IfErr-weaker c.append_due.result AppendMay ActMay append_wider c.append_due.ensures.cause

pub returns-in-Join-clause-cause : goal.returns-in-Join-clause-cause
returns-in-Join-clause-cause g c = all_wider c.join_due.result c.join_due.ensures.cause

pub returns-in-Put-clause-done : goal.returns-in-Put-clause-done
returns-in-Put-clause-done g c =
    put_does c.args.ctx.now (g.C.CompressorPlugin.image (g.C.CompressorPlugin.kind c.args.compressor.now)) c.args.name.now c.args.local.now c.args.kids.now.items c.args.due (g.O.Order.outlet c.args.order.now) (g.O.Order.outlet c.put.new.order) c.in-Put.child c.in-Put.item (todo_of c.args.todo.now.items) c.put.new.kids.items c.put.result
    c.in-Put.is c.put.ensures.kind c.put.ensures.kids c.put.ensures.outlet

pub returns-in-Put-clause-refused : goal.returns-in-Put-clause-refused
returns-in-Put-clause-refused g c =
    put_says c.args.ctx.now (g.C.CompressorPlugin.image (g.C.CompressorPlugin.kind c.args.compressor.now)) c.args.name.now c.args.local.now c.args.kids.now.items c.args.due (g.O.Order.outlet c.args.order.now) (g.O.Order.outlet c.put.new.order) c.in-Put.child c.in-Put.item c.put.result c.in-Put.is c.put.ensures.memory

pub returns-in-Put-clause-kept : goal.returns-in-Put-clause-kept
returns-in-Put-clause-kept g c = err_kept c.put.result (g.O.Order.outlet c.args.order.now) (g.O.Order.outlet c.put.new.order) c.put.ensures.outlet

pub returns-in-Append-clause-done : goal.returns-in-Append-clause-done
returns-in-Append-clause-done g c =
    append_does c.args.ctx.now (g.C.CompressorPlugin.image (g.C.CompressorPlugin.kind c.args.compressor.now)) c.args.name.now c.args.local.now c.args.kids.now.items c.args.due (g.O.Order.outlet c.args.order.now) (g.O.Order.outlet c.append_due.new.order) c.in-Append.stored c.append_due.new.local (todo_of c.args.todo.now.items) c.append_due.result
    c.in-Append.is c.append_due.ensures.done

pub returns-in-Append-clause-refused : goal.returns-in-Append-clause-refused
returns-in-Append-clause-refused g c =
    append_says c.args.ctx.now (g.C.CompressorPlugin.image (g.C.CompressorPlugin.kind c.args.compressor.now)) c.args.name.now c.args.local.now c.args.kids.now.items c.args.due (g.O.Order.outlet c.args.order.now) (g.O.Order.outlet c.append_due.new.order) c.in-Append.stored c.append_due.result c.in-Append.is c.append_due.ensures.refused

pub returns-in-Close-clause-done : goal.returns-in-Close-clause-done
returns-in-Close-clause-done g c =
    close_does c.args.ctx.now (g.C.CompressorPlugin.image (g.C.CompressorPlugin.kind c.args.compressor.now)) c.args.name.now c.args.local.now c.args.kids.now.items c.args.due (g.O.Order.outlet c.args.order.now) (g.O.Order.outlet c.args.order.now) (todo_of c.args.todo.now.items) c.close_all.new.kids.items
    c.in-Close.is c.close_all.ensures.kids refl

pub returns-in-Join-clause-done : goal.returns-in-Join-clause-done
returns-in-Join-clause-done g c =
    join_does c.args.ctx.now (g.C.CompressorPlugin.image (g.C.CompressorPlugin.kind c.args.compressor.now)) c.args.name.now c.args.local.now c.args.kids.now.items c.args.due (g.O.Order.outlet c.args.order.now) (g.O.Order.outlet c.join_due.new.order) c.in-Join.shape c.join_due.new.local (todo_of c.args.todo.now.items) c.join_due.new.kids.items c.join_due.result
    c.in-Join.is c.join_due.ensures.done

pub returns-in-Join-clause-refused : goal.returns-in-Join-clause-refused
returns-in-Join-clause-refused g c =
    join_says c.args.ctx.now (g.C.CompressorPlugin.image (g.C.CompressorPlugin.kind c.args.compressor.now)) c.args.name.now c.args.local.now c.args.kids.now.items c.args.due (g.O.Order.outlet c.args.order.now) (g.O.Order.outlet c.join_due.new.order) c.in-Join.shape c.join_due.result c.in-Join.is c.join_due.ensures.refused

pub returns-in-Join-clause-kept : goal.returns-in-Join-clause-kept
returns-in-Join-clause-kept g c = err_kept c.join_due.result (g.O.Order.outlet c.args.order.now) (g.O.Order.outlet c.join_due.new.order) c.join_due.ensures.outlet

pub hand_over-requires-clause-owned : goal.hand_over-requires-clause-owned
hand_over-requires-clause-owned g c =
    put_owned (g.O.Order.active c.args.order.now) (both (local_stock c.args.local.now) (dues_stock c.args.todo.now.items)) (tasks_stock c.args.kids.now.items) (due_stock c.args.due) (item_stock c.in-HandOn.item) (ap due_stock c.in-HandOn.is) c.requires.owned

pub hand_over-requires-clause-room : goal.hand_over-requires-clause-room
hand_over-requires-clause-room g c = by_case (g.O.Order.active c.args.order.now) (kids_of c.args.kids.now.items) c.args.due (HandOn c.in-HandOn.item c.in-HandOn.reservation) c.in-HandOn.is c.requires.ready

pub returns-in-HandOn-clause-moved : goal.returns-in-HandOn-clause-moved
returns-in-HandOn-clause-moved g c =
    put_moved (g.O.Order.active c.args.order.now) (both (local_stock c.args.local.now) (dues_stock c.args.todo.now.items)) (tasks_stock c.args.kids.now.items) (due_stock c.args.due) (item_stock c.in-HandOn.item) (ap due_stock c.in-HandOn.is) c.requires.owned
    (g.O.Order.active c.hand_over.new.order) (tasks_stock c.hand_over.new.kids.items) c.hand_over.ensures.moved

pub returns-in-HandOn-clause-told : goal.returns-in-HandOn-clause-told
returns-in-HandOn-clause-told g c =
    quiet_told g.O.Sink.Fallible.faults g.O.Sink.Fallible.may_fail g.O.Sink.Fallible.must_fail (g.O.Order.sink c.args.order.now) (g.O.Order.sink c.hand_over.new.order) c.hand_over.ensures.sink actions.Put refl refl c.hand_over.result c.hand_over.ensures.kind (memory_may c.hand_over.result c.hand_over.ensures.memory)

pub returns-in-HandOn-clause-cause : goal.returns-in-HandOn-clause-cause
returns-in-HandOn-clause-cause g c = all_wider c.hand_over.result (memory_may c.hand_over.result c.hand_over.ensures.memory)

pub returns-in-HandOn-clause-done : goal.returns-in-HandOn-clause-done
returns-in-HandOn-clause-done g c =
    hand_does c.args.ctx.now (g.C.CompressorPlugin.image (g.C.CompressorPlugin.kind c.args.compressor.now)) c.args.name.now c.args.local.now c.args.kids.now.items c.args.due (g.O.Order.outlet c.args.order.now) (g.O.Order.outlet c.hand_over.new.order) c.in-HandOn.item c.in-HandOn.reservation (todo_of c.args.todo.now.items) c.hand_over.new.kids.items c.hand_over.result
    c.in-HandOn.is c.hand_over.ensures.kind c.hand_over.ensures.kids c.hand_over.ensures.outlet

pub returns-in-HandOn-clause-refused : goal.returns-in-HandOn-clause-refused
returns-in-HandOn-clause-refused g c =
    hand_says c.args.ctx.now (g.C.CompressorPlugin.image (g.C.CompressorPlugin.kind c.args.compressor.now)) c.args.name.now c.args.local.now c.args.kids.now.items c.args.due (g.O.Order.outlet c.args.order.now) (g.O.Order.outlet c.hand_over.new.order) c.in-HandOn.item c.in-HandOn.reservation c.hand_over.result c.in-HandOn.is c.hand_over.ensures.memory

pub returns-in-HandOn-clause-kept : goal.returns-in-HandOn-clause-kept
returns-in-HandOn-clause-kept g c = err_kept c.hand_over.result (g.O.Order.outlet c.args.order.now) (g.O.Order.outlet c.hand_over.new.order) c.hand_over.ensures.outlet

-- ---- what is reserved

pub returns-in-Put-clause-tracked : goal.returns-in-Put-clause-tracked
returns-in-Put-clause-tracked g c = let d : due_reserved c.args.due ≡ 0 = ap due_reserved c.in-Put.is in omega (arith, d, c.put.ensures.same)

pub hand_over-requires-clause-reserved : goal.hand_over-requires-clause-reserved
hand_over-requires-clause-reserved g c = let d : due_reserved c.args.due ≡ some_bytes c.in-HandOn.reservation = ap due_reserved c.in-HandOn.is in omega (arith, d, c.requires.reserved)

pub returns-in-HandOn-clause-tracked : goal.returns-in-HandOn-clause-tracked
returns-in-HandOn-clause-tracked g c =
    let d : due_reserved c.args.due ≡ some_bytes c.in-HandOn.reservation = ap due_reserved c.in-HandOn.is in
    omega (arith, d, c.hand_over.ensures.same, c.hand_over.ensures.tracked)

pub append_due-requires-clause-reserved : goal.append_due-requires-clause-reserved
append_due-requires-clause-reserved g c = omega (arith, c.requires.reserved)

pub returns-in-Append-clause-tracked : goal.returns-in-Append-clause-tracked
returns-in-Append-clause-tracked g c = let d : due_reserved c.args.due ≡ 0 = ap due_reserved c.in-Append.is in omega (arith, d, c.append_due.ensures.tracked)

pub returns-in-Close-clause-tracked : goal.returns-in-Close-clause-tracked
returns-in-Close-clause-tracked g c = let d : due_reserved c.args.due ≡ 0 = ap due_reserved c.in-Close.is in omega (arith, d, c.close_all.ensures.reserved)

pub join_due-requires-clause-reserved : goal.join_due-requires-clause-reserved
join_due-requires-clause-reserved g c = omega (arith, c.requires.reserved)

pub returns-in-Join-clause-tracked : goal.returns-in-Join-clause-tracked
returns-in-Join-clause-tracked g c = let d : due_reserved c.args.due ≡ 0 = ap due_reserved c.in-Join.is in omega (arith, d, c.join_due.ensures.tracked)

-- ---- calls of the compressor

pub returns-in-Put-clause-pressed : goal.returns-in-Put-clause-pressed
returns-in-Put-clause-pressed g c =
    uncalled g.C.Fallible.faults g.C.Fallible.may_fail g.C.Fallible.must_fail c.args.compressor.now c.args.compressor.now refl actions.Put refl c.put.result c.put.ensures.kind (all_append c.put.result (memory_may c.put.result c.put.ensures.memory))

pub returns-in-HandOn-clause-pressed : goal.returns-in-HandOn-clause-pressed
returns-in-HandOn-clause-pressed g c =
    uncalled g.C.Fallible.faults g.C.Fallible.may_fail g.C.Fallible.must_fail c.args.compressor.now c.args.compressor.now refl actions.Put refl c.hand_over.result c.hand_over.ensures.kind (all_append c.hand_over.result (memory_may c.hand_over.result c.hand_over.ensures.memory))

pub returns-in-EndRun-clause-pressed : goal.returns-in-EndRun-clause-pressed
returns-in-EndRun-clause-pressed g c =
    uncalled g.C.Fallible.faults g.C.Fallible.may_fail g.C.Fallible.must_fail c.args.compressor.now c.args.compressor.now refl actions.Put refl c.end_run.result c.end_run.ensures.kind (all_append c.end_run.result (memory_may c.end_run.result c.end_run.ensures.memory))

pub returns-in-Append-clause-pressed : goal.returns-in-Append-clause-pressed
returns-in-Append-clause-pressed g c =
    uncalled g.C.Fallible.faults g.C.Fallible.may_fail g.C.Fallible.must_fail c.args.compressor.now c.args.compressor.now refl actions.Append refl c.append_due.result (append_kind c.in-Append.stored (g.O.Order.outlet c.args.order.now) (g.O.Order.outlet c.append_due.new.order) c.append_due.new.local (setting_of c.args.ctx.now (g.C.CompressorPlugin.image (g.C.CompressorPlugin.kind c.args.compressor.now))) (listed c.args.ctx.now) refl c.append_due.result c.append_due.ensures.done) c.append_due.ensures.cause

pub returns-in-Close-clause-pressed : goal.returns-in-Close-clause-pressed
returns-in-Close-clause-pressed g c = unasked_self (g.C.Fallible.faults c.args.compressor.now) (g.C.Fallible.may_fail c.args.compressor.now) (g.C.Fallible.must_fail c.args.compressor.now)

pub returns-in-Leave-clause-pressed : goal.returns-in-Leave-clause-pressed
returns-in-Leave-clause-pressed g c = unasked_self (g.C.Fallible.faults c.args.compressor.now) (g.C.Fallible.may_fail c.args.compressor.now) (g.C.Fallible.must_fail c.args.compressor.now)

pub returns-in-Join-clause-pressed : goal.returns-in-Join-clause-pressed
returns-in-Join-clause-pressed g c =
    uncalled g.C.Fallible.faults g.C.Fallible.may_fail g.C.Fallible.must_fail c.args.compressor.now c.args.compressor.now refl actions.Join refl c.join_due.result
    (join_kind (setting_of c.args.ctx.now (g.C.CompressorPlugin.image (g.C.CompressorPlugin.kind c.args.compressor.now))) c.in-Join.shape c.args.kids.now.items (g.O.Order.outlet c.args.order.now) (g.O.Order.outlet c.join_due.new.order) c.join_due.new.local c.join_due.new.kids.items c.join_due.result c.join_due.ensures.done)
    (all_append c.join_due.result c.join_due.ensures.cause)

-- ---- a call of the compressor

pub press-requires : goal.press-requires
press-requires g c = press_owned (g.O.Order.active c.args.order.now) (local_stock c.args.local.now) (dues_stock c.args.todo.now.items) (tasks_stock c.args.kids.now.items) (due_stock c.args.due) (item_stock c.in-Press.item) (ap due_stock c.in-Press.is) c.requires.owned

pub returns-in-Press-clause-moved : goal.returns-in-Press-clause-moved
returns-in-Press-clause-moved g c =
    press_moved (g.O.Order.active c.args.order.now) (local_stock c.args.local.now) (dues_stock c.args.todo.now.items) (tasks_stock c.args.kids.now.items) (due_stock c.args.due) (item_stock c.in-Press.item) (ap due_stock c.in-Press.is) c.requires.owned (g.O.Order.active c.press.new.order) (dues_stock c.press.new.todo.items) c.press.ensures.moved

pub returns-in-Press-clause-tracked : goal.returns-in-Press-clause-tracked
returns-in-Press-clause-tracked g c = let d : due_reserved c.args.due ≡ 0 = ap due_reserved c.in-Press.is in omega (arith, d, c.press.ensures.reserved)

pub returns-in-Press-clause-done : goal.returns-in-Press-clause-done
returns-in-Press-clause-done g c =
    press_does c.args.ctx.now (g.C.CompressorPlugin.image (g.C.CompressorPlugin.kind c.args.compressor.now)) c.args.name.now c.args.local.now c.args.kids.now.items c.args.due (g.O.Order.outlet c.args.order.now) (g.O.Order.outlet c.press.new.order) c.in-Press.which c.in-Press.item (todo_of c.press.new.todo.items) (todo_of c.args.todo.now.items) c.press.result c.in-Press.is c.press.ensures.kind c.press.ensures.done c.press.ensures.outlet

pub returns-in-Press-clause-refused : goal.returns-in-Press-clause-refused
returns-in-Press-clause-refused g c = press_says c.args.ctx.now (g.C.CompressorPlugin.image (g.C.CompressorPlugin.kind c.args.compressor.now)) c.args.name.now c.args.local.now c.args.kids.now.items c.args.due (g.O.Order.outlet c.args.order.now) (g.O.Order.outlet c.press.new.order) c.in-Press.which c.in-Press.item c.press.result c.in-Press.is c.press.ensures.cause

pub returns-in-Press-clause-kept : goal.returns-in-Press-clause-kept
returns-in-Press-clause-kept g c = err_kept c.press.result (g.O.Order.outlet c.args.order.now) (g.O.Order.outlet c.press.new.order) c.press.ensures.outlet

pub returns-in-Press-clause-told : goal.returns-in-Press-clause-told
returns-in-Press-clause-told g c = pressed_told g.O.Sink.Fallible.faults g.O.Sink.Fallible.may_fail g.O.Sink.Fallible.must_fail (g.O.Order.sink c.args.order.now) (g.O.Order.sink c.press.new.order) c.press.ensures.sink actions.Call refl refl c.press.result c.press.ensures.kind c.press.ensures.cause

pub returns-in-Press-clause-cause : goal.returns-in-Press-clause-cause
returns-in-Press-clause-cause g c = IfErr-weaker c.press.result PressMay ActMay press_wider c.press.ensures.cause

-- ---- a zoned node's table

pub start_table-requires-clause-owned : goal.start_table-requires-clause-owned
start_table-requires-clause-owned g c = put_owned (g.O.Order.active c.args.order.now) (both (local_stock c.args.local.now) (dues_stock c.args.todo.now.items)) (tasks_stock c.args.kids.now.items) (due_stock c.args.due) (table_stock c.in-Table.table) (ap due_stock c.in-Table.is) c.requires.owned

pub start_table-requires-clause-reserved : goal.start_table-requires-clause-reserved
start_table-requires-clause-reserved g c = omega (arith, c.requires.reserved)

pub returns-in-Table-clause-moved : goal.returns-in-Table-clause-moved
returns-in-Table-clause-moved g c =
    put_moved (g.O.Order.active c.args.order.now) (both (local_stock c.args.local.now) (dues_stock c.args.todo.now.items)) (tasks_stock c.args.kids.now.items) (due_stock c.args.due) (table_stock c.in-Table.table) (ap due_stock c.in-Table.is) c.requires.owned (g.O.Order.active c.start_table.new.order) (tasks_stock c.start_table.new.kids.items) c.start_table.ensures.moved

pub returns-in-Table-clause-tracked : goal.returns-in-Table-clause-tracked
returns-in-Table-clause-tracked g c = let d : due_reserved c.args.due ≡ 0 = ap due_reserved c.in-Table.is in omega (arith, d, c.start_table.ensures.tracked)

pub returns-in-Table-clause-done : goal.returns-in-Table-clause-done
returns-in-Table-clause-done g c =
    start_does c.args.ctx.now (g.C.CompressorPlugin.image (g.C.CompressorPlugin.kind c.args.compressor.now)) c.args.name.now c.args.local.now c.args.kids.now.items c.args.due (g.O.Order.outlet c.args.order.now) (g.O.Order.outlet c.start_table.new.order) (Table c.in-Table.table) (todo_of c.args.todo.now.items) c.start_table.new.kids.items c.start_table.result c.in-Table.is c.start_table.ensures.done

pub returns-in-Table-clause-refused : goal.returns-in-Table-clause-refused
returns-in-Table-clause-refused g c = start_says c.args.ctx.now (g.C.CompressorPlugin.image (g.C.CompressorPlugin.kind c.args.compressor.now)) c.args.name.now c.args.local.now c.args.kids.now.items c.args.due (g.O.Order.outlet c.args.order.now) (g.O.Order.outlet c.start_table.new.order) (Table c.in-Table.table) c.start_table.result c.in-Table.is c.start_table.ensures.refused

pub returns-in-Table-clause-kept : goal.returns-in-Table-clause-kept
returns-in-Table-clause-kept g c = err_kept c.start_table.result (g.O.Order.outlet c.args.order.now) (g.O.Order.outlet c.start_table.new.order) c.start_table.ensures.outlet

pub returns-in-Table-clause-told : goal.returns-in-Table-clause-told
returns-in-Table-clause-told g c =
    quiet_told g.O.Sink.Fallible.faults g.O.Sink.Fallible.may_fail g.O.Sink.Fallible.must_fail (g.O.Order.sink c.args.order.now) (g.O.Order.sink c.start_table.new.order) c.start_table.ensures.sink actions.Join refl refl c.start_table.result
    (start_kind c.args.ctx.now (g.C.CompressorPlugin.image (g.C.CompressorPlugin.kind c.args.compressor.now)) c.args.name.now c.args.local.now c.args.kids.now.items c.args.due (g.O.Order.outlet c.args.order.now) (g.O.Order.outlet c.start_table.new.order) (Table c.in-Table.table) c.start_table.new.kids.items c.start_table.result actions.Join (λ s n mind. refl) c.start_table.ensures.done) c.start_table.ensures.cause

pub returns-in-Table-clause-pressed : goal.returns-in-Table-clause-pressed
returns-in-Table-clause-pressed g c =
    uncalled g.C.Fallible.faults g.C.Fallible.may_fail g.C.Fallible.must_fail c.args.compressor.now c.args.compressor.now refl actions.Join refl c.start_table.result
    (start_kind c.args.ctx.now (g.C.CompressorPlugin.image (g.C.CompressorPlugin.kind c.args.compressor.now)) c.args.name.now c.args.local.now c.args.kids.now.items c.args.due (g.O.Order.outlet c.args.order.now) (g.O.Order.outlet c.start_table.new.order) (Table c.in-Table.table) c.start_table.new.kids.items c.start_table.result actions.Join (λ s n mind. refl) c.start_table.ensures.done) (all_append c.start_table.result c.start_table.ensures.cause)

pub returns-in-Table-clause-cause : goal.returns-in-Table-clause-cause
returns-in-Table-clause-cause g c = all_wider c.start_table.result c.start_table.ensures.cause

pub give_up_pointer-requires : goal.give_up_pointer-requires
give_up_pointer-requires g c = leave_owned (g.O.Order.active c.args.order.now) (local_stock c.args.local.now) (dues_stock c.args.todo.now.items) (tasks_stock c.args.kids.now.items) (due_stock c.args.due) (end_stock c.in-Leave.eof) (ap due_stock c.in-Leave.is) c.requires.owned

pub returns-in-Leave-clause-moved : goal.returns-in-Leave-clause-moved
returns-in-Leave-clause-moved g c = leave_moved (g.O.Order.active c.args.order.now) (local_stock c.args.local.now) (dues_stock c.args.todo.now.items) (tasks_stock c.args.kids.now.items) (due_stock c.args.due) (end_stock c.in-Leave.eof) (ap due_stock c.in-Leave.is) c.requires.owned (g.O.Order.active c.give_up_pointer.new.order) c.give_up_pointer.ensures.moved

pub returns-in-Leave-clause-tracked : goal.returns-in-Leave-clause-tracked
returns-in-Leave-clause-tracked g c = let d : due_reserved c.args.due ≡ 0 = ap due_reserved c.in-Leave.is in omega (arith, d)

pub returns-in-Leave-clause-done : goal.returns-in-Leave-clause-done
returns-in-Leave-clause-done g c = leave_does c.args.ctx.now (g.C.CompressorPlugin.image (g.C.CompressorPlugin.kind c.args.compressor.now)) c.args.name.now c.args.local.now c.args.kids.now.items c.args.due (g.O.Order.outlet c.args.order.now) (g.O.Order.outlet c.give_up_pointer.new.order) c.in-Leave.eof (todo_of c.args.todo.now.items) c.in-Leave.is c.give_up_pointer.ensures.outlet

pub returns-in-Leave-clause-told : goal.returns-in-Leave-clause-told
returns-in-Leave-clause-told g c = (refl, unasked_by g.O.Sink.Fallible.faults g.O.Sink.Fallible.may_fail g.O.Sink.Fallible.must_fail (g.O.Order.sink c.args.order.now) (g.O.Order.sink c.give_up_pointer.new.order) c.give_up_pointer.ensures.sink)

-- ---- a dictionary node's

pub ask-requires-clause-owned : goal.ask-requires-clause-owned
ask-requires-clause-owned g c = subst (λ s. Owned (g.O.Order.active c.args.order.now) (both (both (both (local_stock c.args.local.now) (dues_stock c.args.todo.now.items)) (tasks_stock c.args.kids.now.items)) s)) (ap due_stock c.in-Ask.is) c.requires.owned

pub ask-requires-clause-reserved : goal.ask-requires-clause-reserved
ask-requires-clause-reserved g c = omega (arith, c.requires.reserved)

pub returns-in-Ask-clause-moved : goal.returns-in-Ask-clause-moved
returns-in-Ask-clause-moved g c =
    subst (λ s. Moved (g.O.Order.active c.args.order.now) (g.O.Order.active c.ask.new.order) (both (both (both (local_stock c.args.local.now) (dues_stock c.args.todo.now.items)) (tasks_stock c.args.kids.now.items)) s) (both (both (local_stock c.ask.new.local) (dues_stock c.ask.new.todo.items)) (tasks_stock c.ask.new.kids.items))) (sym (ap due_stock c.in-Ask.is)) c.ask.ensures.moved

pub returns-in-Ask-clause-tracked : goal.returns-in-Ask-clause-tracked
returns-in-Ask-clause-tracked g c = let d : due_reserved c.args.due ≡ 0 = ap due_reserved c.in-Ask.is in omega (arith, d, c.ask.ensures.tracked, c.ask.ensures.same)

pub returns-in-Ask-clause-done : goal.returns-in-Ask-clause-done
returns-in-Ask-clause-done g c =
    ask_does c.args.ctx.now (g.C.CompressorPlugin.image (g.C.CompressorPlugin.kind c.args.compressor.now)) c.args.name.now c.args.local.now c.args.kids.now.items c.args.due (g.O.Order.outlet c.args.order.now) (g.O.Order.outlet c.ask.new.order) (Ask c.in-Ask.probe) c.ask.new.local (todo_of c.ask.new.todo.items) (todo_of c.args.todo.now.items) c.ask.new.kids.items c.ask.result c.in-Ask.is c.ask.ensures.done

pub returns-in-Ask-clause-refused : goal.returns-in-Ask-clause-refused
returns-in-Ask-clause-refused g c = ask_says c.args.ctx.now (g.C.CompressorPlugin.image (g.C.CompressorPlugin.kind c.args.compressor.now)) c.args.name.now c.args.local.now c.args.kids.now.items c.args.due (g.O.Order.outlet c.args.order.now) (g.O.Order.outlet c.ask.new.order) (Ask c.in-Ask.probe) c.ask.result c.in-Ask.is c.ask.ensures.refused

pub returns-in-Ask-clause-told : goal.returns-in-Ask-clause-told
returns-in-Ask-clause-told g c =
    image_told g.O.Sink.Fallible.faults g.O.Sink.Fallible.may_fail g.O.Sink.Fallible.must_fail (g.O.Order.sink c.args.order.now) (g.O.Order.sink c.ask.new.order) c.ask.ensures.sink c.ask.result c.ask.ensures.kind c.ask.ensures.cause

pub returns-in-Ask-clause-cause : goal.returns-in-Ask-clause-cause
returns-in-Ask-clause-cause g c = IfErr-weaker c.ask.result ImageMay ActMay image_wider c.ask.ensures.cause

pub returns-in-Ask-clause-kept : goal.returns-in-Ask-clause-kept
returns-in-Ask-clause-kept g c = err_kept c.ask.result (g.O.Order.outlet c.args.order.now) (g.O.Order.outlet c.ask.new.order) c.ask.ensures.outlet

pub open_run-requires-clause-owned : goal.open_run-requires-clause-owned
open_run-requires-clause-owned g c = put_owned (g.O.Order.active c.args.order.now) (both (local_stock c.args.local.now) (dues_stock c.args.todo.now.items)) (tasks_stock c.args.kids.now.items) (due_stock c.args.due) (both (run_stock c.in-OpenRun.run') (item_stock c.in-OpenRun.item)) (ap due_stock c.in-OpenRun.is) c.requires.owned

pub open_run-requires-clause-reserved : goal.open_run-requires-clause-reserved
open_run-requires-clause-reserved g c = omega (arith, c.requires.reserved)

pub returns-in-OpenRun-clause-moved : goal.returns-in-OpenRun-clause-moved
returns-in-OpenRun-clause-moved g c =
    put_moved (g.O.Order.active c.args.order.now) (both (local_stock c.args.local.now) (dues_stock c.args.todo.now.items)) (tasks_stock c.args.kids.now.items) (due_stock c.args.due) (both (run_stock c.in-OpenRun.run') (item_stock c.in-OpenRun.item)) (ap due_stock c.in-OpenRun.is) c.requires.owned (g.O.Order.active c.open_run.new.order) (tasks_stock c.open_run.new.kids.items) c.open_run.ensures.moved

pub returns-in-OpenRun-clause-tracked : goal.returns-in-OpenRun-clause-tracked
returns-in-OpenRun-clause-tracked g c = let d : due_reserved c.args.due ≡ 0 = ap due_reserved c.in-OpenRun.is in omega (arith, d, c.open_run.ensures.tracked)

pub returns-in-OpenRun-clause-done : goal.returns-in-OpenRun-clause-done
returns-in-OpenRun-clause-done g c =
    start_does c.args.ctx.now (g.C.CompressorPlugin.image (g.C.CompressorPlugin.kind c.args.compressor.now)) c.args.name.now c.args.local.now c.args.kids.now.items c.args.due (g.O.Order.outlet c.args.order.now) (g.O.Order.outlet c.open_run.new.order) (OpenRun c.in-OpenRun.run' c.in-OpenRun.item) (todo_of c.args.todo.now.items) c.open_run.new.kids.items c.open_run.result c.in-OpenRun.is c.open_run.ensures.done

pub returns-in-OpenRun-clause-refused : goal.returns-in-OpenRun-clause-refused
returns-in-OpenRun-clause-refused g c = start_says c.args.ctx.now (g.C.CompressorPlugin.image (g.C.CompressorPlugin.kind c.args.compressor.now)) c.args.name.now c.args.local.now c.args.kids.now.items c.args.due (g.O.Order.outlet c.args.order.now) (g.O.Order.outlet c.open_run.new.order) (OpenRun c.in-OpenRun.run' c.in-OpenRun.item) c.open_run.result c.in-OpenRun.is c.open_run.ensures.refused

pub returns-in-OpenRun-clause-kept : goal.returns-in-OpenRun-clause-kept
returns-in-OpenRun-clause-kept g c = err_kept c.open_run.result (g.O.Order.outlet c.args.order.now) (g.O.Order.outlet c.open_run.new.order) c.open_run.ensures.outlet

pub returns-in-OpenRun-clause-told : goal.returns-in-OpenRun-clause-told
returns-in-OpenRun-clause-told g c =
    quiet_told g.O.Sink.Fallible.faults g.O.Sink.Fallible.may_fail g.O.Sink.Fallible.must_fail (g.O.Order.sink c.args.order.now) (g.O.Order.sink c.open_run.new.order) c.open_run.ensures.sink actions.Put refl refl c.open_run.result
    (start_kind c.args.ctx.now (g.C.CompressorPlugin.image (g.C.CompressorPlugin.kind c.args.compressor.now)) c.args.name.now c.args.local.now c.args.kids.now.items c.args.due (g.O.Order.outlet c.args.order.now) (g.O.Order.outlet c.open_run.new.order) (OpenRun c.in-OpenRun.run' c.in-OpenRun.item) c.open_run.new.kids.items c.open_run.result actions.Put (λ s n mind. refl) c.open_run.ensures.done) c.open_run.ensures.cause

pub returns-in-OpenRun-clause-pressed : goal.returns-in-OpenRun-clause-pressed
returns-in-OpenRun-clause-pressed g c =
    uncalled g.C.Fallible.faults g.C.Fallible.may_fail g.C.Fallible.must_fail c.args.compressor.now c.args.compressor.now refl actions.Put refl c.open_run.result
    (start_kind c.args.ctx.now (g.C.CompressorPlugin.image (g.C.CompressorPlugin.kind c.args.compressor.now)) c.args.name.now c.args.local.now c.args.kids.now.items c.args.due (g.O.Order.outlet c.args.order.now) (g.O.Order.outlet c.open_run.new.order) (OpenRun c.in-OpenRun.run' c.in-OpenRun.item) c.open_run.new.kids.items c.open_run.result actions.Put (λ s n mind. refl) c.open_run.ensures.done) (all_append c.open_run.result c.open_run.ensures.cause)

pub returns-in-OpenRun-clause-cause : goal.returns-in-OpenRun-clause-cause
returns-in-OpenRun-clause-cause g c = all_wider c.open_run.result c.open_run.ensures.cause

pub end_run-requires-clause-owned : goal.end_run-requires-clause-owned
end_run-requires-clause-owned g c = put_owned (g.O.Order.active c.args.order.now) (both (local_stock c.args.local.now) (dues_stock c.args.todo.now.items)) (tasks_stock c.args.kids.now.items) (due_stock c.args.due) (item_stock c.in-EndRun.item) (ap due_stock c.in-EndRun.is) c.requires.owned

pub end_run-requires-clause-room : goal.end_run-requires-clause-room
end_run-requires-clause-room g c =
    let e : suc c.in-EndRun.child ≡ c.in-EndRun.child + 1 = omega arith in
    subst (λ n. room_at n (kids_of c.args.kids.now.items) ≡ true) e (by_case (g.O.Order.active c.args.order.now) (kids_of c.args.kids.now.items) c.args.due (EndRun c.in-EndRun.child c.in-EndRun.item) c.in-EndRun.is c.requires.ready)

pub returns-in-EndRun-clause-moved : goal.returns-in-EndRun-clause-moved
returns-in-EndRun-clause-moved g c =
    put_moved (g.O.Order.active c.args.order.now) (both (local_stock c.args.local.now) (dues_stock c.args.todo.now.items)) (tasks_stock c.args.kids.now.items) (due_stock c.args.due) (item_stock c.in-EndRun.item) (ap due_stock c.in-EndRun.is) c.requires.owned (g.O.Order.active c.end_run.new.order) (tasks_stock c.end_run.new.kids.items) c.end_run.ensures.moved

pub returns-in-EndRun-clause-tracked : goal.returns-in-EndRun-clause-tracked
returns-in-EndRun-clause-tracked g c = let d : due_reserved c.args.due ≡ 0 = ap due_reserved c.in-EndRun.is in omega (arith, d, c.end_run.ensures.same)

pub returns-in-EndRun-clause-done : goal.returns-in-EndRun-clause-done
returns-in-EndRun-clause-done g c =
    end_does c.args.ctx.now (g.C.CompressorPlugin.image (g.C.CompressorPlugin.kind c.args.compressor.now)) c.args.name.now c.args.local.now c.args.kids.now.items c.args.due (g.O.Order.outlet c.args.order.now) (g.O.Order.outlet c.end_run.new.order) c.in-EndRun.child c.in-EndRun.item (todo_of c.args.todo.now.items) c.end_run.new.kids.items c.end_run.result c.in-EndRun.is c.end_run.ensures.kind c.end_run.ensures.kids c.end_run.ensures.outlet

pub returns-in-EndRun-clause-refused : goal.returns-in-EndRun-clause-refused
returns-in-EndRun-clause-refused g c = end_says c.args.ctx.now (g.C.CompressorPlugin.image (g.C.CompressorPlugin.kind c.args.compressor.now)) c.args.name.now c.args.local.now c.args.kids.now.items c.args.due (g.O.Order.outlet c.args.order.now) (g.O.Order.outlet c.end_run.new.order) c.in-EndRun.child c.in-EndRun.item c.end_run.result c.in-EndRun.is c.end_run.ensures.memory

pub returns-in-EndRun-clause-kept : goal.returns-in-EndRun-clause-kept
returns-in-EndRun-clause-kept g c = err_kept c.end_run.result (g.O.Order.outlet c.args.order.now) (g.O.Order.outlet c.end_run.new.order) c.end_run.ensures.outlet

pub returns-in-EndRun-clause-told : goal.returns-in-EndRun-clause-told
returns-in-EndRun-clause-told g c =
    quiet_told g.O.Sink.Fallible.faults g.O.Sink.Fallible.may_fail g.O.Sink.Fallible.must_fail (g.O.Order.sink c.args.order.now) (g.O.Order.sink c.end_run.new.order) c.end_run.ensures.sink actions.Put refl refl c.end_run.result c.end_run.ensures.kind (memory_may c.end_run.result c.end_run.ensures.memory)

pub returns-in-EndRun-clause-cause : goal.returns-in-EndRun-clause-cause
returns-in-EndRun-clause-cause g c = all_wider c.end_run.result (memory_may c.end_run.result c.end_run.ensures.memory)

-- ---- where the compressor fails

pub returns-in-Put-clause-called : goal.returns-in-Put-clause-called
returns-in-Put-clause-called g c = none_called c.args.due c.put.result (memory_may c.put.result c.put.ensures.memory)

pub returns-in-HandOn-clause-called : goal.returns-in-HandOn-clause-called
returns-in-HandOn-clause-called g c = none_called c.args.due c.hand_over.result (memory_may c.hand_over.result c.hand_over.ensures.memory)

pub returns-in-Press-clause-called : goal.returns-in-Press-clause-called
returns-in-Press-clause-called g c = all_calls c.args.due c.press.result (Press c.in-Press.which c.in-Press.item) c.in-Press.is refl

pub returns-in-Append-clause-called : goal.returns-in-Append-clause-called
returns-in-Append-clause-called g c = none_appended c.args.due c.append_due.result c.append_due.ensures.cause

pub returns-in-Join-clause-called : goal.returns-in-Join-clause-called
returns-in-Join-clause-called g c = none_called c.args.due c.join_due.result c.join_due.ensures.cause

pub returns-in-Table-clause-called : goal.returns-in-Table-clause-called
returns-in-Table-clause-called g c = none_called c.args.due c.start_table.result c.start_table.ensures.cause

pub returns-in-Ask-clause-called : goal.returns-in-Ask-clause-called
returns-in-Ask-clause-called g c = all_calls c.args.due c.ask.result (Ask c.in-Ask.probe) c.in-Ask.is refl

pub returns-in-OpenRun-clause-called : goal.returns-in-OpenRun-clause-called
returns-in-OpenRun-clause-called g c = none_called c.args.due c.open_run.result c.open_run.ensures.cause

pub returns-in-EndRun-clause-called : goal.returns-in-EndRun-clause-called
returns-in-EndRun-clause-called g c = none_called c.args.due c.end_run.result (memory_may c.end_run.result c.end_run.ensures.memory)
