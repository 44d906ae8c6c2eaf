use Rattle.std.proofs.Common.{◌≡◌, ◌+◌, ◌-◌, ◌*◌, ◌<◌, ◌≤◌, ◌==◌, true, length, take, get_or, sym, ap, ◌∙◌, arith, rules, tests}
use Rattle.std.specs.VecDeque.{deque_len}
use Rattle.std.proofs.lemmas.List.{take_all}
use Rattle.vx_machine_task.specs.Ready.{all_made, kids_of}
use Rattle.vx_machine_task.specs.Sizes.{task_count, count_of_all}
use Rattle.vx_machine_task.specs.declared.task.Task.{Task, out-Task}
use Rattle.vx_machine_task.proofs.TaskParts.{task_count_out, count_at}
use Rattle.vx_machine_task.proofs.Readiness.{made_down, made_down_not, made_passing}
use Rattle.vx_machine_task.proofs.ready.+made.Goals as goal

pub all_made-kids-init : goal.all_made-kids-init
all_made-kids-init t c = record { within = omega arith; same = ap (λ z. all_made (kids_of z)) (take_all (length c.args.kids.now) c.args.kids.now (omega arith)) }

pub all_made-returns-then-not-is_made : goal.all_made-returns-then-not-is_made
all_made-returns-then-not-is_made t c =
    let x : Task = c.index-kids-i.result in
    let is : x ≡ get_or c.args.kids.now (c.kids.i - 1) x = c.index-kids-i.is in
    sym (made_down_not c.args.kids.now c.kids.i x (omega (arith, c.kids-test.true)) c.kids.invariant.within is (sym c.is_made.ensures ∙ c.if-not-is_made.true)) ∙ c.kids.invariant.same

pub all_made-kids-preserved : goal.all_made-kids-preserved
all_made-kids-preserved t c =
    let x : Task = c.index-kids-i.result in
    let is : x ≡ get_or c.args.kids.now (c.kids.i - 1) x = c.index-kids-i.is in
    record {
      within = omega (arith, c.kids.invariant.within);
      same = made_down c.args.kids.now c.kids.i x (omega (arith, c.kids-test.true)) c.kids.invariant.within is (sym c.is_made.ensures ∙ c.if-not-is_made.false) ∙ c.kids.invariant.same;
    }

pub all_made-returns : goal.all_made-returns
all_made-returns t c =
    let z : c.kids.i ≡ 0 = omega (arith, c.kids-test.false) in
    sym (ap (λ n. all_made (kids_of (take n c.args.kids.now))) z) ∙ c.kids.invariant.same

pub is_made-all_made-requires : goal.is_made-all_made-requires
is_made-all_made-requires t c =
    let n : count_of_all c.deref.result.now ≡ count_of_all (out-Task c.args.kid.now).kids.items = ap count_of_all c.deref.ensures.value in
    let m : task_count c.args.kid.now ≡ 1 + count_of_all (out-Task c.args.kid.now).kids.items = task_count_out c.args.kid.now in
    let falls : 2 * count_of_all c.deref.result.now + 1 < 2 * task_count c.args.kid.now = omega (arith, n, m) in
    search (rules, arith, falls)

pub all_made-is_made-requires : goal.all_made-is_made-requires
all_made-is_made-requires t c =
    let x : Task = c.index-kids-i.result in
    let h : c.kids.i - 1 < length c.args.kids.now = omega (arith, c.kids-test.true, c.kids.invariant.within) in
    let n : task_count x ≤ count_of_all c.args.kids.now = count_at c.args.kids.now (c.kids.i - 1) x h (sym c.index-kids-i.is) in
    let falls : 2 * task_count x < 2 * count_of_all c.args.kids.now + 1 = omega (arith, n) in
    search (rules, arith, falls)

pub is_made-returns-then-is_empty : goal.is_made-returns-then-is_empty
is_made-returns-then-is_empty t c =
    let h : (deque_len (out-Task c.args.kid.now).head.todo == 0) ≡ true = search (rules, tests) in
    made_passing c.args.kid.now c.all_made.result c.in-Passing.is h (c.all_made.ensures ∙ ap (λ z. all_made (kids_of z)) c.deref.ensures.value)
