use Rattle.std.proofs.Common.{rules, ◌≡◌, ◌+◌, ◌*◌, ◌-◌, ◌<◌, ◌≤◌, ◌∙◌, length, get_or, sym, ap, subst, arith, true, refl, OnOk, Ok, Err, sum, set, ◌∷◌}
use Rattle.vx_sequence.specs.Universe.{Active}
use Rattle.vx_machine_ids.specs.Stock.{one}
use Rattle.vx_machine_ids.specs.Balance.{Owned}
use Rattle.vx_machine_ids.proofs.Lists.{at_owned, at_moved}
use Rattle.vx_machine_tasks.specs.Pairs.{next_pairs, task_pairs, tasks_pairs, AllMay}
use Rattle.vx_machine_task.specs.Ready.{may_now, kids_of, ready_in, ready_among, counted}
use Rattle.vx_machine_task.specs.Sizes.{task_count, count_of_all}
use Rattle.vx_machine_task.specs.Stocks.{task_stock, tasks_stock}
use Rattle.vx_machine_task.specs.declared.task.Task.{Task, out-Task}
use Rattle.vx_machine_task.specs.declared.task.Task.TheOpen.{Task-F}
use Rattle.vx_machine_task.specs.declared.task.Task.TheViews.{roll-Task, the_lemmas}
use Rattle.vx_machine_state.specs.State.{no_tasks}
use Rattle.vx_machine_task.specs.View.{desk_of, task_row, row}
use Rattle.vx_sink.specs.ContextView.{counted as counted_bytes}
use Rattle.vx_machine_task.specs.Ledger.{task_reserved, tasks_reserved}
use Rattle.vx_machine_task.proofs.PaidSteps.{slice_paid, slice_within, at_within, at_paid}
use Rattle.vx_machine_task.proofs.ReadyViews.{none_before, behind_own}
use Rattle.vx_machine_tasks.proofs.StepLifts.{own_done, own_fails, below_done, below_fails, kid_done, kid_fails}
use Rattle.vx_machine_task.proofs.TaskParts.{out_roll, roll_out, task_count_out, head_owned, kids_owned, slice_moved, kids_of_roll, count_at}
use Rattle.vx_machine_tasks.proofs.PairSteps.{head_may, kids_may, kid_may}
use Rattle.vx_machine_task.proofs.Readiness.{ready_in_out, one_true}
use Rattle.std.specs.FinMap as fin
use Rattle.vx_kept.specs.Kept.{Fresh, Knows, KnowsFrom, asked_of, ready_of, kids_of as kids_in}
use Rattle.std.specs.Vec.{with_item}
use Rattle.vx_kept.specs.declared.counts.Counts.{Counts, out-Counts}
use Rattle.vx_kept.specs.declared.counts.Counts.TheOpen.{Counts-F}
use Rattle.vx_kept.proofs.Parts.{out_roll as counts_roll}
use Rattle.vx_kept.proofs.Asking.{fresh_knows, fresh_kid}
use Rattle.vx_machine_task.proofs.Counting.{fresh_sum, Found, found, kid_is, stepped_known}
use Rattle.vx_machine_tasks.proofs.steps.+step.Goals as goal

pub step-may-ready-requires : goal.step-may-ready-requires
step-may-ready-requires g t c = head_owned (g.O.Order.active c.args.order.now) c.args.task.now c.requires.owned

pub step-act-requires-clause-ready : goal.step-act-requires-clause-ready
step-act-requires-clause-ready g t c =
    let u : Active = g.O.Order.active c.args.order.now in
    let a : c.may-ready.result ≡ may_now u (out-Task c.args.task.now).head (kids_of (out-Task c.args.task.now).kids.items) = c.may-ready.ensures.told ∙ ap (λ z. may_now u (out-Task c.args.task.now).head (kids_of z)) c.deref.ensures.value in
    let now : may_now u (out-Task c.args.task.now).head (kids_of (out-Task c.args.task.now).kids.items) ≡ true = sym a ∙ one_true c.may-ready.result c.args.k (subst (λ n. c.args.k < n) c.one-own.ensures c.if-k-own.true) in
    subst (λ (z : Task-F Task). may_now u z.head (kids_of z.kids.items) ≡ true) (sym (out_roll (out-Task c.args.task.now))) now

pub step-act-requires-clause-allowed : goal.step-act-requires-clause-allowed
step-act-requires-clause-allowed g t c =
    subst (λ (z : Task-F Task). AllMay (g.O.Order.may_write c.args.order.now) (next_pairs z.head.todo.items)) (sym (out_roll (out-Task c.args.task.now)))
    (head_may (g.O.Order.may_write c.args.order.now) c.args.task.now c.requires.allowed)

pub step-act-requires-clause-known : goal.step-act-requires-clause-known
step-act-requires-clause-known g t c =
    let u : Active = g.O.Order.active c.args.order.now in
    let x = c.args.counts.now in
    let ks = (out-Task c.args.task.now).kids.items in
    subst (λ (z : Task-F Task). Knows x (row z.kids.items)) (sym (out_roll (out-Task c.args.task.now))) (fresh_knows (fin.keys u) (asked_of x) 0 (ready_of x) (kids_in x) (row ks) c.requires.fresh)

pub step-step_kids-requires : goal.step-step_kids-requires
step-step_kids-requires g t c κs within =
    let u : Active = g.O.Order.active c.args.order.now in
    let v : out-Task (roll-Task (out-Task c.args.task.now)) ≡ out-Task c.args.task.now = out_roll (out-Task c.args.task.now) in
    let kv : c.deref_mut.result.now ≡ (out-Task c.args.task.now).kids.items = c.deref_mut.ensures.value ∙ ap (λ (z : Task-F Task). z.kids.items) v in
    let o : Owned u (tasks_stock c.deref_mut.result.now) = subst (λ z. Owned u (tasks_stock z)) (sym kv) (kids_owned u c.args.task.now c.requires.owned) in
    let n : count_of_all c.deref_mut.result.now ≡ count_of_all (out-Task c.args.task.now).kids.items = ap count_of_all kv in
    let m : task_count c.args.task.now ≡ 1 + count_of_all (out-Task c.args.task.now).kids.items = task_count_out c.args.task.now in
    let falls : 2 * count_of_all c.deref_mut.result.now + 1 < 2 * task_count c.args.task.now = omega (arith, n, m) in
    let a : c.may-ready.result ≡ may_now u (out-Task c.args.task.now).head (kids_of (out-Task c.args.task.now).kids.items) = c.may-ready.ensures.told ∙ ap (λ z. may_now u (out-Task c.args.task.now).head (kids_of z)) c.deref.ensures.value in
    let x : c.one-own.result ≡ one (may_now u (out-Task c.args.task.now).head (kids_of (out-Task c.args.task.now).kids.items)) = c.one-own.ensures ∙ ap one a in
    let e : ready_in u c.args.task.now ≡ one (may_now u (out-Task c.args.task.now).head (kids_of (out-Task c.args.task.now).kids.items)) + ready_among u (out-Task c.args.task.now).kids.items = ready_in_out u c.args.task.now in
    let y : ready_among u c.deref_mut.result.now ≡ ready_among u (out-Task c.args.task.now).kids.items = ap (ready_among u) kv in
    let there : c.args.k - c.one-own.result < counted (ready_among u c.deref_mut.result.now) = omega (arith, x, e, y, c.requires.there, c.if-k-own.false) in
    let may : AllMay (g.O.Order.may_write c.args.order.now) (tasks_pairs c.deref_mut.result.now) =
    subst (λ z. AllMay (g.O.Order.may_write c.args.order.now) (tasks_pairs z)) (sym kv) (kids_may (g.O.Order.may_write c.args.order.now) c.args.task.now c.requires.allowed) in
    let fresh : Fresh (fin.keys u) c.args.counts.now (row c.deref_mut.result.now) = subst (λ z. Fresh (fin.keys u) c.args.counts.now (row z)) (sym kv) c.requires.fresh in
    let reserved : tasks_reserved c.deref_mut.result.now ≤ counted_bytes c.args.ctx.now = slice_within (counted_bytes c.args.ctx.now) c.args.task.now c.deref_mut.result.now kv c.requires.reserved in
    search (rules, arith, o, falls, there, may, fresh, reserved)

pub step-returns-clause-moved : goal.step-returns-clause-moved
step-returns-clause-moved g t c =
    let v : out-Task (roll-Task (out-Task c.args.task.now)) ≡ out-Task c.args.task.now = out_roll (out-Task c.args.task.now) in
    let kv : c.deref_mut.result.now ≡ (out-Task c.args.task.now).kids.items = c.deref_mut.ensures.value ∙ ap (λ (z : Task-F Task). z.kids.items) v in
    slice_moved (g.O.Order.active c.args.order.now) (g.O.Order.active c.step_kids.new.order) c.args.task.now _ c.requires.owned c.deref_mut.result.now c.step_kids.new.kids kv
    (simp the_lemmas refl) (kids_of_roll _ _ c.step_kids.new.kids (omega (arith, c.deref_mut.ensures.len))) c.step_kids.ensures.moved

pub step-returns-clause-tracked : goal.step-returns-clause-tracked
step-returns-clause-tracked g t c =
    let v : out-Task (roll-Task (out-Task c.args.task.now)) ≡ out-Task c.args.task.now = out_roll (out-Task c.args.task.now) in
    let kv : c.deref_mut.result.now ≡ (out-Task c.args.task.now).kids.items = c.deref_mut.ensures.value ∙ ap (λ (z : Task-F Task). z.kids.items) v in
    slice_paid c.args.ctx.now c.step_kids.new.ctx c.args.task.now _ c.deref_mut.result.now c.step_kids.new.kids kv
    (simp the_lemmas refl) (kids_of_roll _ _ c.step_kids.new.kids (omega (arith, c.deref_mut.ensures.len))) c.step_kids.ensures.tracked

pub step-returns-clause-known : goal.step-returns-clause-known
step-returns-clause-known g t c =
    subst (λ z. OnOk c.step_kids.result (Knows c.step_kids.new.counts (row z))) (sym (kids_of_roll _ _ c.step_kids.new.kids (omega (arith, c.deref_mut.ensures.len)))) c.step_kids.ensures.known

-- of the act that is the task's own, and of the children's
pub step-returns-then-k-own-clause-done : goal.step-returns-then-k-own-clause-done
step-returns-then-k-own-clause-done g t c =
    own_done c.args.ctx.now (g.C.CompressorPlugin.image (g.C.CompressorPlugin.kind c.args.compressor.now)) (g.O.Order.active c.args.order.now) (g.O.Order.outlet c.args.order.now) (g.O.Order.outlet c.act.new.order) c.act.result c.args.task.now (roll-Task (out-Task c.args.task.now)) c.args.k
    (roll_out c.args.task.now) (none_before c.may-ready.result c.one-own.result c.args.k c.one-own.ensures c.if-k-own.true) (task_row c.act.new.task no_tasks) c.act.ensures.done

pub step-returns-then-k-own-clause-refused : goal.step-returns-then-k-own-clause-refused
step-returns-then-k-own-clause-refused g t c =
    own_fails c.args.ctx.now (g.C.CompressorPlugin.image (g.C.CompressorPlugin.kind c.args.compressor.now)) (g.O.Order.active c.args.order.now) (g.O.Order.outlet c.args.order.now) (g.O.Order.outlet c.act.new.order) c.act.result c.args.task.now (roll-Task (out-Task c.args.task.now)) c.args.k
    (roll_out c.args.task.now) (none_before c.may-ready.result c.one-own.result c.args.k c.one-own.ensures c.if-k-own.true) c.act.ensures.refused

pub step-returns-clause-done : goal.step-returns-clause-done
step-returns-clause-done g t c =
    let u : Active = g.O.Order.active c.args.order.now in
    let h = (out-Task c.args.task.now).head in
    let ks = (out-Task c.args.task.now).kids.items in
    let v : out-Task (roll-Task (out-Task c.args.task.now)) ≡ out-Task c.args.task.now = out_roll (out-Task c.args.task.now) in
    let kv : c.deref_mut.result.now ≡ ks = c.deref_mut.ensures.value ∙ ap (λ (z : Task-F Task). z.kids.items) v in
    let a : c.may-ready.result ≡ may_now u h (kids_of ks) = c.may-ready.ensures.told ∙ ap (λ z. may_now u h (kids_of z)) c.deref.ensures.value in
    let x : c.one-own.result ≡ one (may_now u h (kids_of ks)) = c.one-own.ensures ∙ ap one a in
    let p = behind_own u c.args.task.now c.args.k c.one-own.result x c.if-k-own.false c.requires.there in
    below_done c.args.ctx.now (g.C.CompressorPlugin.image (g.C.CompressorPlugin.kind c.args.compressor.now)) u (g.O.Order.outlet c.args.order.now) (g.O.Order.outlet c.step_kids.new.order) c.step_kids.result c.args.task.now c.deref_mut.result.now c.args.k (c.args.k - c.one-own.result) kv p.0 p.1
    _ c.step_kids.new.kids (simp the_lemmas refl) (kids_of_roll _ _ c.step_kids.new.kids (omega (arith, c.deref_mut.ensures.len))) c.step_kids.ensures.done

pub step-returns-clause-refused : goal.step-returns-clause-refused
step-returns-clause-refused g t c =
    let u : Active = g.O.Order.active c.args.order.now in
    let h = (out-Task c.args.task.now).head in
    let ks = (out-Task c.args.task.now).kids.items in
    let v : out-Task (roll-Task (out-Task c.args.task.now)) ≡ out-Task c.args.task.now = out_roll (out-Task c.args.task.now) in
    let kv : c.deref_mut.result.now ≡ ks = c.deref_mut.ensures.value ∙ ap (λ (z : Task-F Task). z.kids.items) v in
    let a : c.may-ready.result ≡ may_now u h (kids_of ks) = c.may-ready.ensures.told ∙ ap (λ z. may_now u h (kids_of z)) c.deref.ensures.value in
    let x : c.one-own.result ≡ one (may_now u h (kids_of ks)) = c.one-own.ensures ∙ ap one a in
    let p = behind_own u c.args.task.now c.args.k c.one-own.result x c.if-k-own.false c.requires.there in
    below_fails c.args.ctx.now (g.C.CompressorPlugin.image (g.C.CompressorPlugin.kind c.args.compressor.now)) u (g.O.Order.outlet c.args.order.now) (g.O.Order.outlet c.step_kids.new.order) c.step_kids.result c.args.task.now c.deref_mut.result.now c.args.k (c.args.k - c.one-own.result) kv p.0 p.1 c.step_kids.ensures.refused

-- ---- of the children

pub step_kids-find-place-requires : goal.step_kids-find-place-requires
step_kids-find-place-requires g t c =
    let u : Active = g.O.Order.active c.args.order.now in
    let x = c.args.counts.now in
    let e : counted (sum (ready_of x)) ≡ counted (ready_among u c.args.kids.now) = fresh_sum u c.args.kids.now (asked_of x) (ready_of x) (kids_in x) c.requires.fresh in
    omega (arith, e, c.requires.there)

pub step_kids-offset_bounds-kids-place : goal.step_kids-offset_bounds-kids-place
step_kids-offset_bounds-kids-place g t c =
    let u : Active = g.O.Order.active c.args.order.now in
    let y = c.args.counts.now in
    let ts = c.args.kids.now in
    let i = c.find-place.result.0 in
    let w : Found u ts (ready_of y) (kids_in y) i c.find-place.result.1 c.args.k =
    found u ts (asked_of y) (ready_of y) (kids_in y) c.requires.fresh i c.find-place.result.1 c.args.k c.find-place.ensures.within c.find-place.ensures.place c.find-place.ensures.inside c.requires.there in
    let p : i < length ts = w.place in
    search (rules, arith, p)

pub step_kids-bounds-kids-place : goal.step_kids-bounds-kids-place
step_kids-bounds-kids-place g t c =
    let u : Active = g.O.Order.active c.args.order.now in
    let y = c.args.counts.now in
    let ts = c.args.kids.now in
    let i = c.find-place.result.0 in
    let w : Found u ts (ready_of y) (kids_in y) i c.find-place.result.1 c.args.k =
    found u ts (asked_of y) (ready_of y) (kids_in y) c.requires.fresh i c.find-place.result.1 c.args.k c.find-place.ensures.within c.find-place.ensures.place c.find-place.ensures.inside c.requires.there in
    w.place

pub step_kids-index_mut-requires : goal.step_kids-index_mut-requires
step_kids-index_mut-requires g t c =
    let u : Active = g.O.Order.active c.args.order.now in
    let y = c.args.counts.now in
    let ts = c.args.kids.now in
    let i = c.find-place.result.0 in
    let w : Found u ts (ready_of y) (kids_in y) i c.find-place.result.1 c.args.k =
    found u ts (asked_of y) (ready_of y) (kids_in y) c.requires.fresh i c.find-place.result.1 c.args.k c.find-place.ensures.within c.find-place.ensures.place c.find-place.ensures.inside c.requires.there in
    omega (arith, w.counts, (out-Counts y).kids.ok.0)

pub step_kids-step-requires : goal.step_kids-step-requires
step_kids-step-requires g t c κs within =
    let u : Active = g.O.Order.active c.args.order.now in
    let y = c.args.counts.now in
    let ts = c.args.kids.now in
    let i = c.find-place.result.0 in
    let w : Found u ts (ready_of y) (kids_in y) i c.find-place.result.1 c.args.k =
    found u ts (asked_of y) (ready_of y) (kids_in y) c.requires.fresh i c.find-place.result.1 c.args.k c.find-place.ensures.within c.find-place.ensures.place c.find-place.ensures.inside c.requires.there in
    let x : Task = get_or ts i c.index-kids-place.result in
    let is : get_or ts i x ≡ x = ap (λ z. get_or ts i z) (sym c.index-kids-place.is) in
    let o : Owned u (task_stock x) = at_owned task_stock u ts i x w.place is c.requires.owned in
    let n : task_count x ≤ count_of_all ts = count_at ts i x w.place is in
    let falls : 2 * task_count x < 2 * count_of_all ts + 1 = omega (arith, n) in
    let there : c.find-place.result.1 < counted (ready_in u x) = w.within x is in
    let may : AllMay (g.O.Order.may_write c.args.order.now) (task_pairs x) = kid_may (g.O.Order.may_write c.args.order.now) ts i x w.place is c.requires.allowed in
    let fresh : Fresh (fin.keys u) c.index_mut.result.now (row (out-Task x).kids.items) =
    fresh_kid (fin.keys u) (asked_of y) i (desk_of (out-Task x).head) (row (out-Task x).kids.items) 0 (ready_of y) (kids_in y) (row ts) c.index_mut.result.now (kid_is ts i x w.place is) c.requires.fresh (sym c.index_mut.ensures.value) in
    let reserved : task_reserved x ≤ counted_bytes c.args.ctx.now = at_within (counted_bytes c.args.ctx.now) ts i x w.place is c.requires.reserved in
    search (rules, arith, o, falls, there, may, fresh, reserved)

pub step_kids-returns-in-Ok-clause-moved : goal.step_kids-returns-in-Ok-clause-moved
step_kids-returns-in-Ok-clause-moved g t c =
    let u : Active = g.O.Order.active c.args.order.now in
    let y = c.args.counts.now in
    let ts = c.args.kids.now in
    let i = c.find-place.result.0 in
    let w : Found u ts (ready_of y) (kids_in y) i c.find-place.result.1 c.args.k =
    found u ts (asked_of y) (ready_of y) (kids_in y) c.requires.fresh i c.find-place.result.1 c.args.k c.find-place.ensures.within c.find-place.ensures.place c.find-place.ensures.inside c.requires.there in
    let x : Task = get_or ts i c.index-kids-place.result in
    let is : get_or ts i x ≡ x = ap (λ z. get_or ts i z) (sym c.index-kids-place.is) in
    at_moved task_stock u (g.O.Order.active c.step.new.order) ts i x c.step.new.task w.place is c.requires.owned c.step.ensures.moved

pub step_kids-returns-in-Err-clause-moved : goal.step_kids-returns-in-Err-clause-moved
step_kids-returns-in-Err-clause-moved g t c =
    let u : Active = g.O.Order.active c.args.order.now in
    let y = c.args.counts.now in
    let ts = c.args.kids.now in
    let i = c.find-place.result.0 in
    let w : Found u ts (ready_of y) (kids_in y) i c.find-place.result.1 c.args.k =
    found u ts (asked_of y) (ready_of y) (kids_in y) c.requires.fresh i c.find-place.result.1 c.args.k c.find-place.ensures.within c.find-place.ensures.place c.find-place.ensures.inside c.requires.there in
    let x : Task = get_or ts i c.index-kids-place.result in
    let is : get_or ts i x ≡ x = ap (λ z. get_or ts i z) (sym c.index-kids-place.is) in
    at_moved task_stock u (g.O.Order.active c.step.new.order) ts i x c.step.new.task w.place is c.requires.owned c.step.ensures.moved

pub step_kids-returns-in-Ok-clause-done : goal.step_kids-returns-in-Ok-clause-done
step_kids-returns-in-Ok-clause-done g t c =
    let u : Active = g.O.Order.active c.args.order.now in
    let y = c.args.counts.now in
    let ts = c.args.kids.now in
    let i = c.find-place.result.0 in
    let w : Found u ts (ready_of y) (kids_in y) i c.find-place.result.1 c.args.k =
    found u ts (asked_of y) (ready_of y) (kids_in y) c.requires.fresh i c.find-place.result.1 c.args.k c.find-place.ensures.within c.find-place.ensures.place c.find-place.ensures.inside c.requires.there in
    let x : Task = get_or ts i c.index-kids-place.result in
    let is : get_or ts i x ≡ x = ap (λ z. get_or ts i z) (sym c.index-kids-place.is) in
    kid_done c.args.ctx.now (g.C.CompressorPlugin.image (g.C.CompressorPlugin.kind c.args.compressor.now)) u (g.O.Order.outlet c.args.order.now) (g.O.Order.outlet c.step.new.order) (Ok c.in-Ok.did) ts i x c.args.k c.find-place.result.1 w.passed w.place is c.step.new.task c.in-Ok.ensures.done

pub step_kids-returns-in-Ok-clause-known : goal.step_kids-returns-in-Ok-clause-known
step_kids-returns-in-Ok-clause-known g t c =
    let u : Active = g.O.Order.active c.args.order.now in
    let y = c.args.counts.now in
    let ts = c.args.kids.now in
    let i = c.find-place.result.0 in
    let t : Task = c.step.new.task in
    let parts : Counts-F Counts = record { ready = ready_of y; asked = (out-Counts y).asked; kids = with_item (out-Counts y).kids i c.step.new.counts } in
    c.mark.ensures (row (set ts i t))
    (subst (λ (z : Counts-F Counts). KnowsFrom (i ∷ z.asked.items) 0 z.ready z.kids.items (row (set ts i t))) (sym (counts_roll parts))
    (stepped_known u ts c.step.new.counts i t (ready_of y) (kids_in y) parts.kids.items (asked_of y) c.requires.fresh c.in-Ok.ensures.known refl))

pub step_kids-returns-in-Err-clause-refused : goal.step_kids-returns-in-Err-clause-refused
step_kids-returns-in-Err-clause-refused g t c =
    let u : Active = g.O.Order.active c.args.order.now in
    let y = c.args.counts.now in
    let ts = c.args.kids.now in
    let i = c.find-place.result.0 in
    let w : Found u ts (ready_of y) (kids_in y) i c.find-place.result.1 c.args.k =
    found u ts (asked_of y) (ready_of y) (kids_in y) c.requires.fresh i c.find-place.result.1 c.args.k c.find-place.ensures.within c.find-place.ensures.place c.find-place.ensures.inside c.requires.there in
    let x : Task = get_or ts i c.index-kids-place.result in
    let is : get_or ts i x ≡ x = ap (λ z. get_or ts i z) (sym c.index-kids-place.is) in
    kid_fails c.args.ctx.now (g.C.CompressorPlugin.image (g.C.CompressorPlugin.kind c.args.compressor.now)) u (g.O.Order.outlet c.args.order.now) (g.O.Order.outlet c.step.new.order) (Err c.in-Err.error) ts i x c.args.k c.find-place.result.1 w.passed w.place is c.in-Err.ensures.refused

pub step_kids-returns-in-Ok-clause-tracked : goal.step_kids-returns-in-Ok-clause-tracked
step_kids-returns-in-Ok-clause-tracked g t c =
    let u : Active = g.O.Order.active c.args.order.now in
    let y = c.args.counts.now in
    let ts = c.args.kids.now in
    let i = c.find-place.result.0 in
    let w : Found u ts (ready_of y) (kids_in y) i c.find-place.result.1 c.args.k =
    found u ts (asked_of y) (ready_of y) (kids_in y) c.requires.fresh i c.find-place.result.1 c.args.k c.find-place.ensures.within c.find-place.ensures.place c.find-place.ensures.inside c.requires.there in
    let x : Task = get_or ts i c.index-kids-place.result in
    let is : get_or ts i x ≡ x = ap (λ z. get_or ts i z) (sym c.index-kids-place.is) in
    at_paid c.args.ctx.now c.step.new.ctx ts i x c.step.new.task w.place is c.step.ensures.tracked

pub step_kids-returns-in-Err-clause-tracked : goal.step_kids-returns-in-Err-clause-tracked
step_kids-returns-in-Err-clause-tracked g t c =
    let u : Active = g.O.Order.active c.args.order.now in
    let y = c.args.counts.now in
    let ts = c.args.kids.now in
    let i = c.find-place.result.0 in
    let w : Found u ts (ready_of y) (kids_in y) i c.find-place.result.1 c.args.k =
    found u ts (asked_of y) (ready_of y) (kids_in y) c.requires.fresh i c.find-place.result.1 c.args.k c.find-place.ensures.within c.find-place.ensures.place c.find-place.ensures.inside c.requires.there in
    let x : Task = get_or ts i c.index-kids-place.result in
    let is : get_or ts i x ≡ x = ap (λ z. get_or ts i z) (sym c.index-kids-place.is) in
    at_paid c.args.ctx.now c.step.new.ctx ts i x c.step.new.task w.place is c.step.ensures.tracked
