-- A task's act is its own step; a child's step is one of its parent's.
use Rattle.std.proofs.Common.{◌≡◌, ℕ, ◌+◌, ◌<◌, true, List, ◌∷◌, length, get_or, set, take, Some, sym, ap, subst, ◌∙◌}
use Rattle.std.specs.FinMap as fin
use Rattle.vx_tasks.specs.Run.{nth}
use Rattle.vx_sequence.specs.Universe.{Active}
use Rattle.vx_order.specs.Outlet.{Outlet}
use Rattle.vx_order.specs.Answers.{IsPast, IsShared}
use Rattle.vx_plan.specs.PlanData.{Setting}
use Rattle.vx_write_answer.specs.declared.step.ActionKind.{ActionKind}
use Rattle.vx_write_answer.specs.declared.error.WriteError.{WriteError}
use Rattle.vx_machine_state.specs.State.{Desk, Tasks, no_tasks, task_then}
use Rattle.vx_machine_state.specs.Acts.{Did, do_act}
use Rattle.vx_machine_state.specs.Moves.{Step, may_act, own_step, steps}
use Rattle.vx_machine_state.specs.Places.{one_if, ready_in as ready_of}
use Rattle.vx_machine_state.proofs.Placing.{own_place}
use Rattle.vx_machine_task.specs.declared.task.Task.{Task, out-Task}
use Rattle.vx_machine_task.specs.declared.task.Task.TheOpen.{Task-F}
use Rattle.vx_machine_task.specs.declared.task.Task.TheViews.{roll-Task}
use Rattle.vx_machine_acts.specs.Acting.{Acted, NextFails}
use Rattle.vx_machine_node.specs.Outcome.{Refused}
use Rattle.vx_machine_task.specs.Ready.{kids_of, may_now, ready_among}
use Rattle.vx_machine_tasks.specs.Steps.{TaskStepped, TaskRefused}
use Rattle.vx_machine_tasks.proofs.CallShows.{act_calls}
use Rattle.vx_machine_node.specs.View.{todo_of}
use Rattle.vx_machine_task.specs.View.{desk_of, task_row, row}
use Rattle.vx_machine_task.proofs.ViewParts.{row_out, row_roll}
use Rattle.vx_machine_task.proofs.ReadyViews.{may_view}
use Rattle.vx_machine_tasks.proofs.StepViews.{with_after, kid_after, kid_set, kid_step, below_place}

-- ---- a task's own act

module _ (s : Setting) (u : Active) (number : ℕ) (before : Outlet) (t : Task) (may : may_now u (out-Task t).head (kids_of (out-Task t).kids.items) ≡ true) where
  abbrev desk : Desk
  desk = desk_of (out-Task t).head

  abbrev below : Tasks
  below = row (out-Task t).kids.items

  abbrev did : Did
  did = do_act s number desk below (todo_of (out-Task t).head.todo.items)

  own_first : nth (steps s (fin.keys u) number (task_row t no_tasks)) 0 ≡ Some (own_step desk no_tasks did)
  own_first = subst (λ z. nth (steps s (fin.keys u) number z) 0 ≡ Some (own_step desk no_tasks did)) (sym (row_out t no_tasks))
      (own_place s (fin.keys u) number desk below no_tasks (sym (may_view u (out-Task t).head (out-Task t).kids.items) ∙ may))

  pub own_stepped : (after : Outlet) (x : Task-F Task) (name : List ℕ) (a : ActionKind) → name ≡ (out-Task t).head.name → Acted did before number after x.head x.kids.items a
      → TaskStepped s (fin.keys u) 0 before number after (task_row t no_tasks) (task_row (roll-Task x) no_tasks) name a
  own_stepped after x name a n w = record {
    step = own_step desk no_tasks did;
    place = own_first;
    name_is = n;
    kind = w.kind;
    unrefused = w.unrefused;
    fits = w.fits;
    counted = w.counted;
    left = row_roll x no_tasks ∙ (λ j. task_then (w.desk j) (w.kids_are j) no_tasks);
    outlet = w.outlet;
  }

  pub own_refused : (counts : ℕ) (e : WriteError) → Refused did.refusal did.misfit ((counts + did.raises) ∷ did.numbers) did.indices did.wrote (IsPast before) (IsShared before) did.joined e
      → NextFails (out-Task t).head.todo.items e → TaskRefused s (fin.keys u) 0 counts before number (task_row t no_tasks) e
  own_refused counts e h k = record { step = own_step desk no_tasks did; place = own_first; cause = h; called = act_calls s number desk below (out-Task t).head.todo.items e k }

-- ---- a step of the children, behind the task's own

-- only whether it may act itself is counted before them
module _ (s : Setting) (u : Active) (number : ℕ) (before : Outlet) (t : Task) (k j : ℕ)
    (is : k ≡ one_if (may_act (fin.keys u) (desk_of (out-Task t).head) (row (out-Task t).kids.items) (todo_of (out-Task t).head.todo.items)) + j)
    (less : j < ready_of (fin.keys u) (row (out-Task t).kids.items)) where
  placed : (w : Step) → nth (steps s (fin.keys u) number (row (out-Task t).kids.items)) j ≡ Some w
      → nth (steps s (fin.keys u) number (task_row t no_tasks)) k ≡ Some (with_after w (task_then (desk_of (out-Task t).head) w.after no_tasks))
  placed w e = ap (nth (steps s (fin.keys u) number (task_row t no_tasks))) is ∙ below_place u s number t j w less e

  pub below_stepped : (after : Outlet) (new : Task) (ks : List Task) (name : List ℕ) (a : ActionKind) → (out-Task new).head ≡ (out-Task t).head → (out-Task new).kids.items ≡ ks
      → TaskStepped s (fin.keys u) j before number after (row (out-Task t).kids.items) (row ks) name a → TaskStepped s (fin.keys u) k before number after (task_row t no_tasks) (task_row new no_tasks) name a
  below_stepped after new ks name a h i w = record {
    step = with_after w.step (task_then (desk_of (out-Task t).head) w.step.after no_tasks);
    place = placed w.step w.place;
    name_is = w.name_is;
    kind = w.kind;
    unrefused = w.unrefused;
    fits = w.fits;
    counted = w.counted;
    left = row_out new no_tasks ∙ (λ z. task_then (desk_of (h z)) (row (i z)) no_tasks) ∙ ap (λ z. task_then (desk_of (out-Task t).head) z no_tasks) w.left;
    outlet = w.outlet;
  }

  pub below_refused : (counts : ℕ) (e : WriteError) → TaskRefused s (fin.keys u) j counts before number (row (out-Task t).kids.items) e → TaskRefused s (fin.keys u) k counts before number (task_row t no_tasks) e
  below_refused counts e w = record { step = with_after w.step (task_then (desk_of (out-Task t).head) w.step.after no_tasks); place = placed w.step w.place; cause = w.cause; called = w.called }

-- ---- a step of one of the children

module _ (s : Setting) (u : Active) (number : ℕ) (before : Outlet) (ks : List Task) (i : ℕ) (x : Task) (k j : ℕ) (is : k ≡ ready_among u (take i ks) + j) (less : i < length ks) (at : get_or ks i x ≡ x) where
  stands : (w : Step) → nth (steps s (fin.keys u) number (task_row x no_tasks)) j ≡ Some w → nth (steps s (fin.keys u) number (row ks)) k ≡ Some (with_after w (kid_after ks i w.after))
  stands w e = ap (nth (steps s (fin.keys u) number (row ks))) is ∙ kid_step u s number ks i x j w less at e

  pub kid_stepped : (after : Outlet) (new : Task) (name : List ℕ) (a : ActionKind) → TaskStepped s (fin.keys u) j before number after (task_row x no_tasks) (task_row new no_tasks) name a
      → TaskStepped s (fin.keys u) k before number after (row ks) (row (set ks i new)) name a
  kid_stepped after new name a w = record {
    step = with_after w.step (kid_after ks i w.step.after);
    place = stands w.step w.place;
    name_is = w.name_is;
    kind = w.kind;
    unrefused = w.unrefused;
    fits = w.fits;
    counted = w.counted;
    left = sym (kid_set ks i new less) ∙ ap (kid_after ks i) w.left;
    outlet = w.outlet;
  }

  pub kid_refused : (counts : ℕ) (e : WriteError) → TaskRefused s (fin.keys u) j counts before number (task_row x no_tasks) e → TaskRefused s (fin.keys u) k counts before number (row ks) e
  kid_refused counts e w = record { step = with_after w.step (kid_after ks i w.step.after); place = stands w.step w.place; cause = w.cause; called = w.called }
