-- How many are ready, the source with them, and when all is done: as the machine in plain data tells it.
use Rattle.std.proofs.Common.{◌≡◌, ℕ, zero, ◌+◌, ◌-◌, ◌<◌, ◌≤◌, ◌&&◌, true, [], ◌∷◌, refl, sym, ap, subst, ◌∙◌, arith}
use Rattle.std.specs.FinMap as fin
use Rattle.vx_sequence.specs.Universe.{Active}
use Rattle.vx_machine_ids.specs.Stock.{one}
use Rattle.vx_machine_state.specs.State.{no_tasks}
use Rattle.vx_machine_view.specs.Machine as whole
use Rattle.vx_machine_state.specs.Places as task_places
use Rattle.vx_machine_view.specs.Places as places
use Rattle.vx_machine.specs.declared.source.Phase.{Phase}
use Rattle.vx_machine.specs.declared.source.Phase.TheVariants.{Reading, Giving, Closing, Finished}
use Rattle.vx_machine.specs.declared.machine.Machine.{Machine}
use Rattle.vx_machine_task.specs.declared.task.Task.{Task}
use Rattle.vx_machine_task.specs.Ready.{ready_in}
use Rattle.vx_machine.specs.Whole.{may_source, machine_ready, has_closed, is_finished}
use Rattle.vx_machine_task.specs.View.{task_row}
use Rattle.vx_machine.specs.View.{phase_of, machine_of}
use Rattle.vx_machine_task.proofs.Readiness.{one_true}
use Rattle.vx_machine_task.proofs.ReadyViews.{done_view, none_before, one_same, room_view, task_ready}

-- ---- the whole machine

source_view : (p : Phase) (t : Task) → may_source p t ≡ whole.may_source (phase_of p) (task_row t no_tasks)
source_view (Reading ns) t = refl
source_view (Giving ns i) t = room_view zero (t ∷ [])
source_view Closing t = refl
source_view Finished t = refl

-- the source's own place, and the root's behind it

pub own_source : (p : Phase) (t : Task) (k n : ℕ) → n ≡ one (may_source p t) → k < n → (k ≡ 0) × (whole.may_source (phase_of p) (task_row t no_tasks) ≡ true)
own_source p t k n e h =
    (none_before (may_source p t) n k e h, sym (source_view p t) ∙ one_true (may_source p t) k (subst (λ z. k < z) e h))

pub behind_source : (p : Phase) (t : Task) (k n : ℕ) → n ≡ one (may_source p t) → n ≤ k → k ≡ task_places.one_if (whole.may_source (phase_of p) (task_row t no_tasks)) + (k - n)
behind_source p t k n e h =
    let o : task_places.one_if (whole.may_source (phase_of p) (task_row t no_tasks)) ≡ one (may_source p t) = ap task_places.one_if (sym (source_view p t)) ∙ sym (one_same (may_source p t)) in
    omega (arith, o, e, h)

pub machine_view : (u : Active) (m : Machine) → places.whole_ready (fin.keys u) (machine_of m) ≡ machine_ready u m
machine_view u m =
    let o : task_places.one_if (whole.may_source (phase_of m.phase) (task_row m.root no_tasks)) ≡ one (may_source m.phase m.root) = ap task_places.one_if (sym (source_view m.phase m.root)) ∙ sym (one_same (may_source m.phase m.root)) in
    let k : task_places.ready_in (fin.keys u) (task_row m.root no_tasks) ≡ ready_in u m.root = task_ready u m.root in
    omega (arith, o, k)

-- ---- the end

closed_view : (p : Phase) → has_closed p ≡ whole.has_closed (phase_of p)
closed_view (Reading ns) = refl
closed_view (Giving ns i) = refl
closed_view Closing = refl
closed_view Finished = refl

pub finished_view : (m : Machine) → is_finished m ≡ whole.is_finished (machine_of m)
finished_view m = λ i. closed_view m.phase i && done_view m.root i
