use Rattle.std.proofs.Common.{rules, ◌≡◌, ◌+◌, ◌*◌, ◌<◌, ◌≤◌, ◌^◌, ◌-◌, min, sum, ◌∙◌, [], ◌∷◌, length, get_or, set, sym, ap, subst, arith, inl, inr, refl, vec_len, ◌++◌, false, get_or-set_same}
use Rattle.std.specs.FinMap as fin
use Rattle.vx_sequence.specs.Universe.{Active}
use Rattle.vx_machine_ids.specs.Stock.{one}
use Rattle.vx_machine_ids.specs.Balance.{Owned}
use Rattle.vx_machine_ids.proofs.Lists.{at_owned}
use Rattle.vx_kept.specs.Kept.{FreshFrom, KnowsFrom, Knows, GoingFrom, ready_at, asked_of, ready_of, kids_of}
use Rattle.vx_kept.specs.Follow.{waits}
use Rattle.vx_kept.specs.declared.counts.Counts.{Counts}
use Rattle.vx_kept.specs.declared.counts.Counts.TheOpen.{Counts-F}
use Rattle.vx_kept.proofs.Parts.{out_roll, fresh_roll}
use Rattle.vx_kept.proofs.Keeping.{end_within, in_left, in_right}
use Rattle.vx_kept.proofs.Asking.{going_more, going_done, going_past, going_ask, steady_by}
use Rattle.vx_machine_state.specs.Acts.{count}
use Rattle.vx_machine_task.specs.Counting.{AllKnown}
use Rattle.vx_machine_task.specs.Ready.{may_now, kids_of as kids_at, ready_in, ready_among, counted}
use Rattle.vx_machine_task.specs.Sizes.{task_count, count_of_all}
use Rattle.vx_machine_task.specs.Stocks.{task_stock, tasks_stock}
use Rattle.vx_machine_node.specs.View.{todo_of}
use Rattle.vx_machine_task.specs.View.{desk_of, row}
use Rattle.vx_machine_task.specs.declared.task.Task.{Task, out-Task}
use Rattle.vx_machine_task.proofs.TaskParts.{task_count_out, count_at, head_owned, kids_owned}
use Rattle.vx_machine_node.proofs.ListParts.{none_is}
use Rattle.vx_machine_task.proofs.Readiness.{ready_in_out, get_same}
use Rattle.vx_machine_task.proofs.ViewParts.{count_row}
use Rattle.vx_machine_task.proofs.Counting.{all_known, fresh_sum, kid_is, task_at}
use Rattle.vx_machine_task.proofs.+counts.Goals as goal

pub task::Task::count_ready-may-requires : goal.task::Task::count_ready-may-requires
task::Task::count_ready-may-requires g t c = head_owned (g.O.Order.active c.args.order.now) c.args.self.now c.requires.owned

pub task::Task::count_ready-count_kids-requires : goal.task::Task::count_ready-count_kids-requires
task::Task::count_ready-count_kids-requires g t c κs within =
    let u : Active = g.O.Order.active c.args.order.now in
    let x = c.args.counts.now in
    let o : Owned u (tasks_stock c.deref-2.result.now) = subst (λ z. Owned u (tasks_stock z)) (sym c.deref-2.ensures.value) (kids_owned u c.args.self.now c.requires.owned) in
    let n : count_of_all c.deref-2.result.now ≡ count_of_all (out-Task c.args.self.now).kids.items = ap count_of_all c.deref-2.ensures.value in
    let m : task_count c.args.self.now ≡ 1 + count_of_all (out-Task c.args.self.now).kids.items = task_count_out c.args.self.now in
    let falls : 3 * count_of_all c.deref-2.result.now + 2 < 3 * task_count c.args.self.now = omega (arith, n, m) in
    let known : KnowsFrom (asked_of x) 0 (ready_of x) (kids_of x) (row c.deref-2.result.now) = subst (λ z. KnowsFrom (asked_of x) 0 (ready_of x) (kids_of x) (row z)) (sym c.deref-2.ensures.value) c.requires.known in
    search (rules, arith, o, falls, known)

pub task::Task::count_ready-returns-clause-told : goal.task::Task::count_ready-returns-clause-told
task::Task::count_ready-returns-clause-told g t c =
    let u : Active = g.O.Order.active c.args.order.now in
    let ks = (out-Task c.args.self.now).kids.items in
    let a : c.may.result ≡ may_now u (out-Task c.args.self.now).head (kids_at ks) = c.may.ensures.told ∙ ap (λ z. may_now u (out-Task c.args.self.now).head (kids_at z)) c.deref.ensures.value in
    let x : c.one-own.result ≡ one (may_now u (out-Task c.args.self.now).head (kids_at ks)) = c.one-own.ensures ∙ ap one a in
    let f : counted (sum c.count_kids.new.ready) ≡ counted (ready_among u ks) =
    fresh_sum u c.deref-2.result.now c.count_kids.new.asked.items c.count_kids.new.ready c.count_kids.new.below.items c.in_ok-count_kids.ensures.fresh ∙ ap (λ z. counted (ready_among u z)) c.deref-2.ensures.value in
    let y : c.sum.result ≡ min (sum c.count_kids.new.ready) (2 ^ 64 - 1) =
    c.sum.ensures ∙ ap (λ (z : Counts-F Counts). min (sum z.ready) (2 ^ 64 - 1)) (out_roll (record { ready = c.count_kids.new.ready; asked = c.count_kids.new.asked; kids = c.count_kids.new.below })) in
    let z : c.saturating_add.result ≡ min (c.one-own.result + c.sum.result) (2 ^ 64 - 1) = c.saturating_add.ensures in
    let e : ready_in u c.args.self.now ≡ one (may_now u (out-Task c.args.self.now).head (kids_at ks)) + ready_among u ks = ready_in_out u c.args.self.now in
    omega (arith, x, f, y, z, e)

pub task::Task::count_ready-returns-clause-fresh : goal.task::Task::count_ready-returns-clause-fresh
task::Task::count_ready-returns-clause-fresh g t c =
    let all = fin.keys (g.O.Order.active c.args.order.now) in
    fresh_roll all (record { ready = c.count_kids.new.ready; asked = c.count_kids.new.asked; kids = c.count_kids.new.below }) (row (out-Task c.args.self.now).kids.items)
    (subst (λ z. FreshFrom all c.count_kids.new.asked.items 0 c.count_kids.new.ready c.count_kids.new.below.items (row z)) c.deref-2.ensures.value c.in_ok-count_kids.ensures.fresh)

-- what is known, and nothing is noted
pub counts::count_kids-asked-init : goal.counts::count_kids-asked-init
counts::count_kids-asked-init g t c =
    let all = fin.keys (g.O.Order.active c.args.order.now) in
    let n : count (row c.args.kids.now) ≡ length c.args.kids.now = count_row c.args.kids.now in
    subst (λ z. GoingFrom all c.top_up.new.asked.items z 0 c.top_up.new.ready c.top_up.new.kids.items (row c.args.kids.now)) (sym c.new-later.ensures.items)
    (c.in_ok-top_up.ensures all (row c.args.kids.now) n c.requires.known)

pub counts::count_kids-count_kid-requires : goal.counts::count_kids-count_kid-requires
counts::count_kids-count_kid-requires g t c κs within =
    let all = fin.keys (g.O.Order.active c.args.order.now) in
    let o : Owned (g.O.Order.active c.args.order.now) (tasks_stock c.args.kids.now) = c.requires.owned in
    let falls : 3 * count_of_all c.args.kids.now + 1 < 3 * count_of_all c.args.kids.now + 2 = omega arith in
    let known : AllKnown c.asked.ready c.asked.below.items c.args.kids.now = all_known all c.asked.asked.items c.asked.later.items c.asked.ready c.asked.below.items c.args.kids.now c.asked.invariant in
    search (rules, arith, o, falls, known)

pub counts::count_kids-asked-preserved : goal.counts::count_kids-asked-preserved
counts::count_kids-asked-preserved g t c =
    let all = fin.keys (g.O.Order.active c.args.order.now) in
    let ks = row c.args.kids.now in
    let rest = c.pop.new.self.items in
    let before : GoingFrom all (rest ++ (c.in-Some.i ∷ [])) c.asked.later.items 0 c.asked.ready c.asked.below.items ks =
    subst (λ z. GoingFrom all z c.asked.later.items 0 c.asked.ready c.asked.below.items ks) c.in-Some.ensures.items c.asked.invariant in
    c.in_ok-count_kid.ensures.going rest (going_more all (rest ++ (c.in-Some.i ∷ [])) (c.in-Some.i ∷ rest) c.asked.later.items c.asked.later.items (end_within c.in-Some.i rest) (λ j h. h) 0 c.asked.ready c.asked.below.items ks before)

pub counts::count_kids-returns : goal.counts::count_kids-returns
counts::count_kids-returns g t c =
    let all = fin.keys (g.O.Order.active c.args.order.now) in
    let ks = row c.args.kids.now in
    let z : vec_len c.asked.asked ≡ 0 = search (rules, arith) in
    let none : c.asked.asked.items ≡ [] = none_is c.asked.asked.items (sym c.asked.asked.ok.0 ∙ z) in
    record {
      fresh = going_done all c.asked.later.items 0 c.asked.ready c.asked.below.items ks
          (subst (λ z. GoingFrom all z c.asked.later.items 0 c.asked.ready c.asked.below.items ks) none c.asked.invariant);
    }

-- ---- one child

-- there is none of this number
pub counts::count_kid-returns-then-i-kids : goal.counts::count_kid-returns-then-i-kids
counts::count_kid-returns-then-i-kids g t c = record {
  going = λ asked k.
      let all = fin.keys (g.O.Order.active c.args.order.now) in
      let i = c.args.i in
      let later = c.args.later.now.items in
      let n : count (row c.args.kids.now) ≡ length c.args.kids.now = count_row c.args.kids.now in
      going_past all (i ∷ asked) asked later later (λ j h. h) i 0 c.args.ready.now c.args.below.now.items (row c.args.kids.now) (λ j h. h) (inr (omega (arith, n, c.if-i-kids.true))) k;
}

pub counts::count_kid-count_ready-requires : goal.counts::count_kid-count_ready-requires
counts::count_kid-count_ready-requires g t c κs within =
    let u : Active = g.O.Order.active c.args.order.now in
    let i = c.args.i in
    let x : Task = c.index-kids-i.result in
    let y = c.index_mut.result.now in
    let h : i < length c.args.kids.now = c.if-i-kids.false in
    let is : get_or c.args.kids.now i x ≡ x = sym c.index-kids-i.is in
    let o : Owned u (task_stock x) = at_owned task_stock u c.args.kids.now i x h is c.requires.owned in
    let n : task_count x ≤ count_of_all c.args.kids.now = count_at c.args.kids.now i x h is in
    let falls : 3 * task_count x < 3 * count_of_all c.args.kids.now + 1 = omega (arith, n) in
    let known : Knows y (row (out-Task x).kids.items) =
    subst (λ z. Knows z (row (out-Task x).kids.items)) (sym c.index_mut.ensures.value)
    (subst (λ z. Knows (get_or c.args.below.now.items i y) (row (out-Task z).kids.items)) is (c.requires.known.each i y x h)) in
    search (rules, arith, o, falls, known)

pub counts::count_kid-returns-then-is_steady : goal.counts::count_kid-returns-then-is_steady
counts::count_kid-returns-then-is_steady g t c = record {
  going = λ asked k.
      let u : Active = g.O.Order.active c.args.order.now in
      let all = fin.keys u in
      let i = c.args.i in
      let ts = c.args.kids.now in
      let xs = c.args.below.now.items in
      let later = c.args.later.now.items in
      let x : Task = c.index-kids-i.result in
      let y = c.count_ready.new.counts in
      let n = c.in_ok-n.n in
      let d = desk_of (out-Task x).head in
      let js = row (out-Task x).kids.items in
      let h : i < length ts = c.if-i-kids.false in
      let l : i < length xs = omega (arith, h, c.requires.known.kids) in
      let a : n ≡ ready_at all d js = c.in_ok-n.ensures.told ∙ sym (task_at u x) in
      let p = c.is_steady.ensures c.if-is_steady.true in
      let w : waits (todo_of (out-Task x).head.todo.items) ≡ false =
      subst (λ z. waits (todo_of (out-Task z).head.todo.items) ≡ false) (get_same ts i x c.index-kids-i-2.result h c.index-kids-i.is) p.0 in
      let none : asked_of y ≡ [] = subst (λ z. asked_of z ≡ []) (c.index.ensures ∙ get_or-set_same xs i y c.index.result.now l) p.1 in
      subst (λ z. GoingFrom all asked later 0 z (set xs i y) (row ts)) (sym c.set.ensures)
      (going_ask all (i ∷ asked) asked later later (λ j q. q) i n y d js i 0 c.args.ready.now xs (row ts) (omega arith) (λ j q. q) (kid_is ts i x h (sym c.index-kids-i.is))
      ((a, c.in_ok-n.ensures.fresh), inr (steady_by all n y d js w none a c.in_ok-n.ensures.fresh)) k);
}

pub counts::count_kid-returns : goal.counts::count_kid-returns
counts::count_kid-returns g t c = record {
  going = λ asked k.
      let u : Active = g.O.Order.active c.args.order.now in
      let all = fin.keys u in
      let i = c.args.i in
      let ts = c.args.kids.now in
      let xs = c.args.below.now.items in
      let later = c.args.later.now.items in
      let x : Task = c.index-kids-i.result in
      let y = c.count_ready.new.counts in
      let n = c.in_ok-n.n in
      let d = desk_of (out-Task x).head in
      let js = row (out-Task x).kids.items in
      let h : i < length ts = c.if-i-kids.false in
      let a : n ≡ ready_at all d js = c.in_ok-n.ensures.told ∙ sym (task_at u x) in
      subst (λ z. GoingFrom all asked z 0 c.set.new.self (set xs i y) (row ts)) (sym c.in_ok-push.ensures.items)
      (subst (λ z. GoingFrom all asked (later ++ (i ∷ [])) 0 z (set xs i y) (row ts)) (sym c.set.ensures)
      (going_ask all (i ∷ asked) asked later (later ++ (i ∷ [])) (λ j q. in_left j later (i ∷ []) q) i n y d js i 0 c.args.ready.now xs (row ts) (omega arith) (λ j q. q) (kid_is ts i x h (sym c.index-kids-i.is))
      ((a, c.in_ok-n.ensures.fresh), inl (in_right i later (i ∷ []) (inl refl))) k));
}
