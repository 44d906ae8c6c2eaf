-- What the parts of a task have reserved, by themselves and in plain data.
use Rattle.std.proofs.Common.{◌≡◌, ℕ, zero, suc, ◌+◌, ◌<◌, ◌≤◌, List, [], ◌∷◌, ◌++◌, map, length, get_or, set, Option, Some, None, refl, sym, ap, ◌∙◌, arith}
use Rattle.std.proofs.lemmas.List.{map-append}
use Rattle.vx_model.specs.ChunkData.{held}
use Rattle.vx_regroup.specs.declared.regroup.Regroup.{Regroup}
use Rattle.vx_regroup.specs.declared.regroup.Regroup.TheVariants.{Repartition, Buffered, Collect}
use Rattle.vx_machine_state.specs.State.{no_tasks}
use Rattle.vx_machine_state.specs.Reserved.{next_reserved, mind_reserved, reserved_by}
use Rattle.vx_machine_node.specs.declared.item.Due.{Due}
use Rattle.vx_machine_node.specs.declared.item.Due.TheVariants.{Put, HandOn, Append, Close, Join, Table, Leave, Press, Ask, OpenRun, EndRun}
use Rattle.vx_machine_node.specs.declared.item.Item.{Item}
use Rattle.vx_machine_node.specs.declared.node.Local.{Local}
use Rattle.vx_machine_node.specs.declared.node.Local.TheVariants.{Empty, Full, Chunked, Columns, Lists, Grouped, Over, Passing, Made, Zoned, Pressing, AsIs, Probe, Asking, Runs}
use Rattle.vx_machine_task.specs.declared.task.Head.{Head}
use Rattle.vx_machine_task.specs.declared.task.Task.{Task, out-Task}
use Rattle.vx_machine_task.specs.declared.task.Task.TheOpen.{Task-F}
use Rattle.vx_machine_task.specs.declared.task.Task.TheViews.{roll-Task}
use Rattle.vx_machine_task.specs.declared.task.Task.TheFolds.{fold_out-Task}
use Rattle.vx_machine_node.specs.Ledger.{dues_reserved, local_reserved}
use Rattle.vx_machine_task.specs.Ledger.{head_reserved, step_reserved, task_reserved, tasks_reserved}
use Rattle.vx_machine_node.specs.Regrouped.{sizes_in, mind_in}
use Rattle.vx_machine_node.specs.Sizes.{sum_of}
use Rattle.vx_machine_task.specs.Sizes.{task_count, count_of_all}
use Rattle.vx_machine_node.specs.View.{todo_of, mind_of}
use Rattle.vx_machine_task.specs.View.{desk_of, task_row, row}
use Rattle.vx_machine_node.proofs.GroupSizes.{sum_more, held_sum, held_push}
use Rattle.vx_machine_task.proofs.TaskParts.{out_roll, task_count_out}
use Rattle.vx_machine_task.proofs.ViewParts.{row_out}

-- ---- by parts

pub task_reserved_out : (t : Task) → task_reserved t ≡ head_reserved (out-Task t).head + tasks_reserved (out-Task t).kids.items
task_reserved_out = fold_out-Task ℕ step_reserved

pub task_reserved_roll : (x : Task-F Task) → task_reserved (roll-Task x) ≡ head_reserved x.head + tasks_reserved x.kids.items
task_reserved_roll x = task_reserved_out (roll-Task x) ∙ ap (λ (z : Task-F Task). head_reserved z.head + tasks_reserved z.kids.items) (out_roll x)

pub tasks_more : (xs ys : List Task) → tasks_reserved (xs ++ ys) ≡ tasks_reserved xs + tasks_reserved ys
tasks_more xs ys = ap sum_of (map-append task_reserved xs ys) ∙ sum_more (map task_reserved xs) (map task_reserved ys)

pub tasks_push : (all xs : List Task) (t : Task) → all ≡ xs ++ (t ∷ []) → tasks_reserved all ≡ tasks_reserved xs + task_reserved t
tasks_push all xs t e = let r : tasks_reserved (xs ++ (t ∷ [])) ≡ tasks_reserved xs + (task_reserved t + 0) = tasks_more xs (t ∷ []) in ap tasks_reserved e ∙ omega (arith, r)

-- one of several
pub tasks_within : (ts : List Task) (n : ℕ) (x : Task) → n < length ts → get_or ts n x ≡ x → task_reserved x ≤ tasks_reserved ts
tasks_within [] n x h e = absurd (omega (arith, h))
tasks_within (t ∷ ts) zero x h e = let a : task_reserved t ≡ task_reserved x = ap task_reserved e in omega (arith, a)
tasks_within (t ∷ ts) (suc n) x h e = let a : task_reserved x ≤ tasks_reserved ts = tasks_within ts n x (omega (arith, h)) e in omega (arith, a)

-- another in its place
pub tasks_set : (ts : List Task) (n : ℕ) (x y : Task) → n < length ts → get_or ts n x ≡ x → tasks_reserved (set ts n y) + task_reserved x ≡ tasks_reserved ts + task_reserved y
tasks_set [] n x y h e = absurd (omega (arith, h))
tasks_set (t ∷ ts) zero x y h e = let a : task_reserved t ≡ task_reserved x = ap task_reserved e in omega (arith, a)
tasks_set (t ∷ ts) (suc n) x y h e = let a : tasks_reserved (set ts n y) + task_reserved x ≡ tasks_reserved ts + task_reserved y = tasks_set ts n x y (omega (arith, h)) e in omega (arith, a)

-- ---- in plain data

dues_view : (ds : List Due) → next_reserved (todo_of ds) ≡ dues_reserved ds
dues_view [] = refl
dues_view (Put c i ∷ ds) = let r : next_reserved (todo_of ds) ≡ dues_reserved ds = dues_view ds in omega (arith, r)
dues_view (HandOn i None ∷ ds) = let r : next_reserved (todo_of ds) ≡ dues_reserved ds = dues_view ds in omega (arith, r)
dues_view (HandOn i (Some n) ∷ ds) = ap (λ k. n + k) (dues_view ds)
dues_view (Append x ∷ ds) = let r : next_reserved (todo_of ds) ≡ dues_reserved ds = dues_view ds in omega (arith, r)
dues_view (Close ∷ ds) = let r : next_reserved (todo_of ds) ≡ dues_reserved ds = dues_view ds in omega (arith, r)
dues_view (Join f ∷ ds) = let r : next_reserved (todo_of ds) ≡ dues_reserved ds = dues_view ds in omega (arith, r)
dues_view (Table t ∷ ds) = let r : next_reserved (todo_of ds) ≡ dues_reserved ds = dues_view ds in omega (arith, r)
dues_view (Leave e ∷ ds) = let r : next_reserved (todo_of ds) ≡ dues_reserved ds = dues_view ds in omega (arith, r)
dues_view (Press which i ∷ ds) = let r : next_reserved (todo_of ds) ≡ dues_reserved ds = dues_view ds in omega (arith, r)
dues_view (Ask p ∷ ds) = let r : next_reserved (todo_of ds) ≡ dues_reserved ds = dues_view ds in omega (arith, r)
dues_view (OpenRun o i ∷ ds) = let r : next_reserved (todo_of ds) ≡ dues_reserved ds = dues_view ds in omega (arith, r)
dues_view (EndRun child i ∷ ds) = let r : next_reserved (todo_of ds) ≡ dues_reserved ds = dues_view ds in omega (arith, r)

node_view : (r : Regroup) (j : Option Item) (rows : ℕ) (sizes : List ℕ) → sizes ≡ sizes_in r j → mind_reserved (mind_in r j rows) ≡ sum_of sizes
node_view (Repartition h) j rows sizes e = ap sum_of (sym e)
node_view (Collect h) j rows sizes e = ap sum_of (sym e)
node_view (Buffered h) None rows sizes e =
    let a : sum_of sizes ≡ sum_of (map held h.chunks) = ap sum_of e in
    omega (arith, a, held_sum h.chunks)
node_view (Buffered h) (Some j) rows sizes e =
    let a : sum_of sizes ≡ sum_of (map held (h.chunks ++ (j.chunk ∷ []))) = ap sum_of e in
    omega (arith, a, held_push h.chunks j.chunk, held_sum h.chunks, held_sum (h.chunks ++ (j.chunk ∷ [])))

local_view : (l : Local) → mind_reserved (mind_of l) ≡ local_reserved l
local_view (Empty n) = refl
local_view (Full x) = refl
local_view (Chunked n eof rows) = refl
local_view (Columns n rows) = refl
local_view (Lists n rows) = refl
local_view (Grouped n) = node_view n.rule n.newest n.rows n.reserved.items n.weighed
local_view (Zoned n) = refl
local_view (Pressing which) = refl
local_view AsIs = refl
local_view (Probe n eof) = refl
local_view Asking = refl
local_view (Runs r) = refl
local_view Over = refl
local_view Passing = refl
local_view (Made l) = refl

head_view : (h : Head) → next_reserved (desk_of h).todo + mind_reserved (desk_of h).mind ≡ head_reserved h
head_view h = λ k. dues_view h.todo.items k + local_view h.local k

row_upto : (n : ℕ) (ts : List Task) → count_of_all ts ≤ n → reserved_by (row ts) ≡ tasks_reserved ts
row_upto n [] h = refl
row_upto zero (t ∷ ts) h = absurd (omega (arith, h, task_count_out t))
row_upto (suc n) (t ∷ ts) h =
    let c : task_count t ≡ 1 + count_of_all (out-Task t).kids.items = task_count_out t in
    let below : reserved_by (row (out-Task t).kids.items) ≡ tasks_reserved (out-Task t).kids.items = row_upto n (out-Task t).kids.items (omega (arith, h, c)) in
    let rest : reserved_by (row ts) ≡ tasks_reserved ts = row_upto n ts (omega (arith, h, c)) in
    let own : task_reserved t ≡ head_reserved (out-Task t).head + tasks_reserved (out-Task t).kids.items = task_reserved_out t in
    ap reserved_by (row_out t (row ts)) ∙ (λ k. (head_view (out-Task t).head k + below k) + rest k) ∙ ap (λ z. z + tasks_reserved ts) (sym own)

pub row_view : (ts : List Task) → reserved_by (row ts) ≡ tasks_reserved ts
row_view ts = row_upto (count_of_all ts) ts (omega arith)

pub task_view : (t : Task) → reserved_by (task_row t no_tasks) ≡ task_reserved t
task_view t = let r : reserved_by (row (t ∷ [])) ≡ task_reserved t + 0 = row_view (t ∷ []) in omega (arith, r)
