-- A task in plain data, by its head and its children; and tasks that stand beside each other.
use Rattle.std.proofs.Common.{◌≡◌, suc, List, [], ◌∷◌, ◌++◌, length, refl, sym, ap, ◌∙◌, arith, Vec, Global}
use Rattle.std.specs.Prelude.{vec_len}
use Rattle.std.proofs.lemmas.List.{map_push}
use Rattle.vx_plan.specs.PlanData.{Item as Piece}
use Rattle.vx_machine_state.specs.State.{Desk, Tasks, no_tasks, task_then}
use Rattle.vx_machine_state.specs.Acts.{count, add, with_item}
use Rattle.vx_machine_node.specs.declared.item.Item.{Item}
use Rattle.vx_machine_task.specs.declared.task.Head.{Head}
use Rattle.vx_machine_task.specs.declared.task.Task.{Task, out-Task}
use Rattle.vx_machine_task.specs.declared.task.Task.TheOpen.{Task-F}
use Rattle.vx_machine_task.specs.declared.task.Task.TheViews.{roll-Task}
use Rattle.vx_machine_task.specs.declared.task.Task.TheFolds.{fold_out-Task}
use Rattle.vx_machine_node.specs.View.{item_of, items_of, todo_of, mind_of}
use Rattle.vx_machine_task.specs.View.{desk_of, step_row, task_row, row}
use Rattle.vx_machine_task.proofs.TaskParts.{out_roll}

-- ---- one task

pub row_out : (t : Task) (r : Tasks) → task_row t r ≡ task_then (desk_of (out-Task t).head) (row (out-Task t).kids.items) r
row_out t r = ap (λ (f : Tasks → Tasks). f r) (fold_out-Task (Tasks → Tasks) step_row t)

pub row_roll : (x : Task-F Task) (r : Tasks) → task_row (roll-Task x) r ≡ task_then (desk_of x.head) (row x.kids.items) r
row_roll x r = row_out (roll-Task x) r ∙ ap (λ (z : Task-F Task). task_then (desk_of z.head) (row z.kids.items) r) (out_roll x)

-- with nothing to do and nothing on its queue
pub idle_row : (x : Task-F Task) (r : Tasks) → x.head.todo.items ≡ [] → x.head.inbox.items ≡ []
    → task_row (roll-Task x) r ≡ task_then (record { name = x.head.name; mind = mind_of x.head.local; todo = []; inbox = []; places = x.head.places; closed = x.head.closed }) (row x.kids.items) r
idle_row x r a b =
    row_roll x r
    ∙ (λ j. task_then (record { name = x.head.name; mind = mind_of x.head.local; todo = todo_of (a j); inbox = items_of (b j); places = x.head.places; closed = x.head.closed }) (row x.kids.items) r)

-- the head alone changed
pub head_row : (x : Task-F Task) (t : Task) (c : Desk) (r : Tasks) → x.kids ≡ (out-Task t).kids → desk_of x.head ≡ c → task_row (roll-Task x) r ≡ task_then c (row (out-Task t).kids.items) r
head_row x t c r k h = row_roll x r ∙ (λ j. task_then (h j) (row (k j).items) r)

-- one more item on the queue
pub desk_more : (h : Head) (ys : List Item) (i : Item) → ys ≡ h.inbox.items ++ (i ∷ [])
    → record { name = h.name; mind = mind_of h.local; todo = todo_of h.todo.items; inbox = items_of ys; places = h.places; closed = h.closed } ≡ with_item (desk_of h) (item_of i)
desk_more h ys i e =
    ap (λ (zs : List Piece). record { name = h.name; mind = mind_of h.local; todo = todo_of h.todo.items; inbox = zs; places = h.places; closed = h.closed })
    (ap items_of e ∙ map_push item_of h.inbox.items i)

-- ---- tasks beside each other

pub add_none : (c : Tasks) → add c no_tasks ≡ c
add_none no_tasks = refl
add_none (task_then c ks r) = ap (task_then c ks) (add_none r)

pub add_add : (a b c : Tasks) → add (add a b) c ≡ add a (add b c)
add_add no_tasks b c = refl
add_add (task_then x ks r) b c = ap (task_then x ks) (add_add r b c)

pub row_more : (ts us : List Task) → row (ts ++ us) ≡ add (row ts) (row us)
row_more [] us = refl
row_more (t ∷ ts) us =
    row_out t (row (ts ++ us))
    ∙ ap (task_then (desk_of (out-Task t).head) (row (out-Task t).kids.items)) (row_more ts us)
    ∙ ap (λ z. add z (row us)) (sym (row_out t (row ts)))

pub row_push : (ts : List Task) (t : Task) → row (ts ++ (t ∷ [])) ≡ add (row ts) (task_row t no_tasks)
row_push ts t = row_more ts (t ∷ [])

pub count_row : (ts : List Task) → count (row ts) ≡ length ts
count_row [] = refl
count_row (t ∷ ts) = ap count (row_out t (row ts)) ∙ ap suc (count_row ts)

pub len_is : (v : Vec Task Global) → vec_len v ≡ length v.items
len_is v = omega (arith, v.ok.0)
