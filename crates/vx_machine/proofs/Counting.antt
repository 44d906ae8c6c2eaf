-- The source's act changes nothing below the root.
use Rattle.std.proofs.Common.{◌≡◌, zero, Option, List, refl, sym, ap, ◌∙◌}
use Rattle.vx_model.specs.Ty.{Ty}
use Rattle.vx_model.specs.ChunkData.{ChunkData}
use Rattle.vx_plan.specs.PlanData.{Item as Piece}
use Rattle.vx_write_answer.specs.declared.step.ActionKind.{ActionKind}
use Rattle.vx_machine_promises.specs.Write.{Answer, unasked, came, over}
use Rattle.vx_machine_state.specs.State.{Tasks, no_tasks, task_then}
use Rattle.vx_machine_state.specs.Acts.{give, shut_all}
use Rattle.vx_machine_view.specs.Machine as whole
use Rattle.vx_machine.specs.SourceActs.{SourceActed}
use Rattle.vx_machine_task.specs.View.{task_row, row}
use Rattle.vx_machine_task.specs.declared.task.Task.{Task, out-Task}
use Rattle.vx_machine_task.proofs.ViewParts.{row_out}

-- what is below a task
abbrev below : Tasks → Tasks
below no_tasks = no_tasks
below (task_then c ks r) = ks

give_below : (i : Piece) (root : Tasks) → below (give zero i root) ≡ below root
give_below i no_tasks = refl
give_below i (task_then c ks r) = refl

shut_below : (root : Tasks) → below (shut_all root) ≡ below root
shut_below no_tasks = refl
shut_below (task_then c ks r) = refl

source_below : (told : Answer) (p : whole.Phase) (root : Tasks) → below (whole.source_step told p root).after.root ≡ below root
source_below unasked (whole.reading ns) root = refl
source_below (came b) (whole.reading ns) root = refl
source_below over (whole.reading ns) root = refl
source_below told (whole.giving ns i) root = give_below i root
source_below told whole.closing root = shut_below root
source_below told whole.finished root = refl

row_below : (t : Task) → below (task_row t no_tasks) ≡ row (out-Task t).kids.items
row_below t = ap below (row_out t no_tasks)

-- the source's act changes nothing below the root
pub source_keeps : (ty : Ty) (before now : Option (List ChunkData)) (phase later : whole.Phase) (t v : Task) (a : ActionKind) → SourceActed ty before now phase later (task_row t no_tasks) (task_row v no_tasks) a
    → row (out-Task t).kids.items ≡ row (out-Task v).kids.items
source_keeps ty before now phase later t v a w =
    sym (row_below t) ∙ sym (source_below w.told phase (task_row t no_tasks)) ∙ sym (ap (λ (m : whole.Machine). below m.root) w.left) ∙ row_below v
