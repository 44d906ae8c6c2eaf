-- Answers of steps, carried from a task to its parent.
use Rattle.std.proofs.Common.{◌≡◌, ℕ, ◌+◌, ◌<◌, List, length, get_or, set, take, Result, IfOk, IfErr, sym, subst}
use Rattle.std.proofs.lemmas.Result.{IfOk-weaker, IfErr-weaker}
use Rattle.std.specs.FinMap as fin
use Rattle.vx_model.specs.ChunkData.{ChunkData}
use Rattle.vx_sequence.specs.Universe.{Active}
use Rattle.vx_order.specs.Outlet.{Outlet}
use Rattle.vx_sink.specs.declared.context.LayoutWriterContext.{LayoutWriterContext}
use Rattle.vx_sink.specs.ContextView.{counted}
use Rattle.vx_write_answer.specs.declared.error.WriteError.{WriteError}
use Rattle.vx_machine_state.specs.State.{Tasks, no_tasks}
use Rattle.vx_machine_state.specs.Moves.{may_act}
use Rattle.vx_machine_state.specs.Places.{one_if, ready_in as ready_of}
use Rattle.vx_machine_tasks.specs.declared.steps.Did.{Did}
use Rattle.vx_machine_task.specs.declared.task.Task.{Task, out-Task}
use Rattle.vx_machine_node.specs.Context.{setting_of}
use Rattle.vx_machine_task.specs.Ready.{ready_among}
use Rattle.vx_machine_tasks.specs.Steps.{TaskStepped, TaskRefused, TaskDone, TaskFails}
use Rattle.vx_machine_node.specs.View.{todo_of}
use Rattle.vx_machine_task.specs.View.{desk_of, task_row, row}
use Rattle.vx_machine_tasks.proofs.StepShows.{below_stepped, below_refused, kid_stepped, kid_refused}

module _ (ctx : LayoutWriterContext) (image : ℕ → ChunkData → ChunkData) (u : Active) (before after : Outlet) (r : Result Did WriteError) where
  abbrev pub Stepped : ℕ → Tasks → Tasks → Type 0
  Stepped k cs new = IfOk r (λ (d : Did). TaskDone ctx image (fin.keys u) k before after cs new d.task d.action)

  abbrev pub Fails : ℕ → Tasks → Type 0
  Fails k cs = IfErr r (TaskFails ctx image (fin.keys u) k before cs)

  -- the task's own act, in the first place
  module _ (t v : Task) (k : ℕ) (same : v ≡ t) (first : k ≡ 0) where
    pub own_done : (new : Tasks) → Stepped 0 (task_row v no_tasks) new → Stepped k (task_row t no_tasks) new
    own_done new h = subst (λ j. Stepped j (task_row t no_tasks) new) (sym first) (subst (λ x. Stepped 0 (task_row x no_tasks) new) same h)

    pub own_fails : Fails 0 (task_row v no_tasks) → Fails k (task_row t no_tasks)
    own_fails h = subst (λ j. Fails j (task_row t no_tasks)) (sym first) (subst (λ x. Fails 0 (task_row x no_tasks)) same h)

  -- a step of the children, borrowed as a slice
  module _ (t : Task) (ks : List Task) (k j : ℕ) (same : ks ≡ (out-Task t).kids.items)
      (is : k ≡ one_if (may_act (fin.keys u) (desk_of (out-Task t).head) (row (out-Task t).kids.items) (todo_of (out-Task t).head.todo.items)) + j)
      (less : j < ready_of (fin.keys u) (row (out-Task t).kids.items)) where
    pub below_done : (new : Task) (kn : List Task) → (out-Task new).head ≡ (out-Task t).head → (out-Task new).kids.items ≡ kn → Stepped j (row ks) (row kn) → Stepped k (task_row t no_tasks) (task_row new no_tasks)
    below_done new kn h i =
        IfOk-weaker r (λ (d : Did). TaskDone ctx image (fin.keys u) j before after (row ks) (row kn) d.task d.action) (λ (d : Did). TaskDone ctx image (fin.keys u) k before after (task_row t no_tasks) (task_row new no_tasks) d.task d.action)
        (λ d w. (
          w.0,
          below_stepped (setting_of ctx image) u w.0 before t k j is less after new kn d.task d.action h i
              (subst (λ z. TaskStepped (setting_of ctx image) (fin.keys u) j before w.0 after (row z) (row kn) d.task d.action) same w.1),
        ))

    pub below_fails : Fails j (row ks) → Fails k (task_row t no_tasks)
    below_fails =
        IfErr-weaker r (TaskFails ctx image (fin.keys u) j before (row ks)) (TaskFails ctx image (fin.keys u) k before (task_row t no_tasks))
        (λ e w number. below_refused (setting_of ctx image) u number before t k j is less (counted ctx) e (subst (λ z. TaskRefused (setting_of ctx image) (fin.keys u) j (counted ctx) before number (row z) e) same (w number)))

  -- a step of child i
  module _ (ks : List Task) (i : ℕ) (x : Task) (k j : ℕ) (is : k ≡ ready_among u (take i ks) + j) (less : i < length ks) (at : get_or ks i x ≡ x) where
    pub kid_done : (new : Task) → Stepped j (task_row x no_tasks) (task_row new no_tasks) → Stepped k (row ks) (row (set ks i new))
    kid_done new =
        IfOk-weaker r (λ (d : Did). TaskDone ctx image (fin.keys u) j before after (task_row x no_tasks) (task_row new no_tasks) d.task d.action)
        (λ (d : Did). TaskDone ctx image (fin.keys u) k before after (row ks) (row (set ks i new)) d.task d.action)
        (λ d w. (w.0, kid_stepped (setting_of ctx image) u w.0 before ks i x k j is less at after new d.task d.action w.1))

    pub kid_fails : Fails j (task_row x no_tasks) → Fails k (row ks)
    kid_fails =
        IfErr-weaker r (TaskFails ctx image (fin.keys u) j before (task_row x no_tasks)) (TaskFails ctx image (fin.keys u) k before (row ks))
        (λ e w number. kid_refused (setting_of ctx image) u number before ks i x k j is less at (counted ctx) e (w number))
