-- What is reserved and counted, over several calls and over the parts of a task.
use Rattle.std.proofs.Common.{◌≡◌, ℕ, ◌+◌, ◌<◌, ◌≤◌, List, length, get_or, set, Result, Ok, Err, IfOk, refl, ap, arith}
use Rattle.vx_sink.specs.declared.context.LayoutWriterContext.{LayoutWriterContext}
use Rattle.vx_sink.specs.ContextView.{counted}
use Rattle.vx_write_answer.specs.declared.error.WriteError.{WriteError}
use Rattle.vx_machine_node.specs.declared.node.Local.{Local}
use Rattle.vx_machine_node.specs.Ledger.{Paid, ok_bytes, local_reserved}
use Rattle.vx_machine_task.specs.Ledger.{head_reserved, task_reserved, tasks_reserved}
use Rattle.vx_machine_task.specs.declared.task.Task.{Task, out-Task}
use Rattle.vx_machine_task.specs.declared.task.Task.TheOpen.{Task-F}
use Rattle.vx_machine_task.specs.declared.task.Task.TheViews.{roll-Task}
use Rattle.vx_machine_task.proofs.ReservedSteps.{task_reserved_out, task_reserved_roll, tasks_set, tasks_within}

-- what is in mind has reserved nothing, or there was an error
pub ok_none_reserved : (r : Result Local WriteError) → IfOk r (λ l. local_reserved l ≡ 0) → ok_bytes local_reserved r ≡ 0
ok_none_reserved (Ok l) h = h
ok_none_reserved (Err e) h = refl

-- ---- over the parts of a task

-- the children paid, and were borrowed as a slice
pub slice_paid : (a b : LayoutWriterContext) (t e : Task) (ks es : List Task) → ks ≡ (out-Task t).kids.items → (out-Task e).head ≡ (out-Task t).head → (out-Task e).kids.items ≡ es
    → Paid a b (tasks_reserved ks) (tasks_reserved es) → Paid a b (task_reserved t) (task_reserved e)
slice_paid a b t e ks es k h i p =
    let x : task_reserved t ≡ head_reserved (out-Task t).head + tasks_reserved (out-Task t).kids.items = task_reserved_out t in
    let y : task_reserved e ≡ head_reserved (out-Task e).head + tasks_reserved (out-Task e).kids.items = task_reserved_out e in
    let m : tasks_reserved ks ≡ tasks_reserved (out-Task t).kids.items = ap tasks_reserved k in
    let n : head_reserved (out-Task e).head ≡ head_reserved (out-Task t).head = ap head_reserved h in
    let o : tasks_reserved (out-Task e).kids.items ≡ tasks_reserved es = ap tasks_reserved i in
    omega (arith, x, y, m, n, o, p)

pub slice_within : (n : ℕ) (t : Task) (ks : List Task) → ks ≡ (out-Task t).kids.items → task_reserved t ≤ n → tasks_reserved ks ≤ n
slice_within n t ks k h =
    let x : task_reserved t ≡ head_reserved (out-Task t).head + tasks_reserved (out-Task t).kids.items = task_reserved_out t in
    let m : tasks_reserved ks ≡ tasks_reserved (out-Task t).kids.items = ap tasks_reserved k in
    omega (arith, x, m, h)

-- one of several paid
pub at_within : (n : ℕ) (ts : List Task) (i : ℕ) (x : Task) → i < length ts → get_or ts i x ≡ x → tasks_reserved ts ≤ n → task_reserved x ≤ n
at_within n ts i x h e w = let a : task_reserved x ≤ tasks_reserved ts = tasks_within ts i x h e in omega (arith, a, w)

pub at_paid : (a b : LayoutWriterContext) (ts : List Task) (i : ℕ) (x y : Task) → i < length ts → get_or ts i x ≡ x → Paid a b (task_reserved x) (task_reserved y)
    → Paid a b (tasks_reserved ts) (tasks_reserved (set ts i y))
at_paid a b ts i x y h e p =
    let s : tasks_reserved (set ts i y) + task_reserved x ≡ tasks_reserved ts + task_reserved y = tasks_set ts i x y h e in
    omega (arith, s, p)

-- another of several, that has reserved as much
pub at_same : (ts : List Task) (i : ℕ) (x y : Task) → i < length ts → get_or ts i x ≡ x → task_reserved y ≡ task_reserved x → tasks_reserved (set ts i y) ≡ tasks_reserved ts
at_same ts i x y h e s =
    let a : tasks_reserved (set ts i y) + task_reserved x ≡ tasks_reserved ts + task_reserved y = tasks_set ts i x y h e in
    omega (arith, a, s)

-- the head alone changed, and has reserved as much
pub head_same : (x : Task-F Task) (t : Task) → x.kids ≡ (out-Task t).kids → head_reserved x.head ≡ head_reserved (out-Task t).head → task_reserved (roll-Task x) ≡ task_reserved t
head_same x t k h =
    let a : task_reserved (roll-Task x) ≡ head_reserved x.head + tasks_reserved x.kids.items = task_reserved_roll x in
    let b : task_reserved t ≡ head_reserved (out-Task t).head + tasks_reserved (out-Task t).kids.items = task_reserved_out t in
    let c : tasks_reserved x.kids.items ≡ tasks_reserved (out-Task t).kids.items = λ j. tasks_reserved (k j).items in
    omega (arith, a, b, c, h)
