-- A run of the machine: its steps, one after the other.
use Rattle.std.specs.Prelude.{◌≡◌, ◌⊎◌, ◌+◌, ◌%◌, ◌<◌, ℕ, suc, true, false, List, [], ◌∷◌, length, Option, Some, None, slice_index}
use Rattle.vx_model.specs.Ty.{Ty}
use Rattle.vx_model.specs.ChunkData.{ChunkData}
use Rattle.vx_layout_tree.specs.declared.layout.Layout.{Layout}
use Rattle.vx_layout_tree.specs.LayoutView.{layout_data}
use Rattle.vx_order.specs.Outlet.{Outlet}
use Rattle.vx_sink.specs.declared.context.LayoutWriterContext.{LayoutWriterContext}
use Rattle.vx_write_answer.specs.declared.step.Step.{Step}
use Rattle.vx_write_answer.specs.declared.error.WriteError.{WriteError}
use Rattle.vx_write_answer.specs.declared.error.WriteError.TheVariants.{BatchType, OutOfMemory}
use Rattle.vx_sink.specs.ContextView.{counted as counted_bytes}
use Rattle.vx_machine_state.specs.Acts.{layouts_in}
use Rattle.vx_machine_state.specs.Reserved.{reserved_by}
use Rattle.vx_machine_view.specs.Machine.{Machine, is_finished, machine_ids}
use Rattle.vx_machine_view.specs.Places.{whole_ready}
use Rattle.vx_machine.specs.Calls.{reads_in, reads_at}
use Rattle.vx_machine_node.specs.Outcome.{Kept}
use Rattle.vx_machine.specs.Steps.{StepDone, StepFails}

-- where it stands: the machine, what the source still tells, and what the order tells of its sink
pub record At : Type 0 where
  pub machine : Machine
  pub to_come : Option (List ChunkData)
  pub outlet : Outlet

abbrev pub at : Machine → Option (List ChunkData) → Outlet → At
at m c o = record { machine = m; to_come = c; outlet = o }

-- how many steps are ready
abbrev pub ready_at : Machine → ℕ
ready_at m = whole_ready (machine_ids m) m

-- the step of this place, by the schedule's pick
pub record RunStep (ctx : LayoutWriterContext) (image : ℕ → ChunkData → ChunkData) (t : Ty) (schedule : List ℕ) (place : ℕ) (x y : At) (s : Step) : Type 0 where
  pub some : 0 < ready_at x.machine
  pub ready : s.ready ≡ ready_at x.machine
  pub picked : s.picked ≡ slice_index schedule place % s.ready
  pub done : StepDone ctx image (machine_ids x.machine) s.picked t x.to_come y.to_come x.outlet y.outlet x.machine y.machine s.task s.action

-- the steps lead from one stand to another
abbrev pub Ran : LayoutWriterContext → (ℕ → ChunkData → ChunkData) → Ty → List ℕ → ℕ → At → List Step → At → Type 0
Ran ctx image t schedule place x [] y = x ≡ y
Ran ctx image t schedule place x (s ∷ ss) y = (z : At) × RunStep ctx image t schedule place x z s × Ran ctx image t schedule (suc place) z ss y

-- how it ends: with a layout, or where nothing is ready
abbrev pub Ends : Machine → Option Layout → Type 0
Ends m (Some l) = (is_finished m ≡ true) × (layouts_in m.root ≡ layout_data l ∷ [])
Ends m None = (is_finished m ≡ false) × (ready_at m ≡ 0)

pub record RunDone (ctx : LayoutWriterContext) (image : ℕ → ChunkData → ChunkData) (t : Ty) (schedule : List ℕ) (x : At) (trace : List Step) (to_come : Option (List ChunkData)) (outlet : Outlet) (l : Option Layout) : Type 0 where
  pub end : At
  pub ran : Ran ctx image t schedule 0 x trace end
  pub told : to_come ≡ end.to_come
  pub sink : outlet ≡ end.outlet
  pub left : Ends end.machine l

-- the place that the schedule picks
abbrev pub picked_at : List ℕ → ℕ → Machine → ℕ
picked_at schedule place m = slice_index schedule place % ready_at m

-- what the tracker then counts: what it did before the run, and what is reserved
abbrev pub tracker_by : LayoutWriterContext → Machine → ℕ
tracker_by ctx m = counted_bytes ctx + reserved_by m.root

-- memory ran out before a step, where the machine hasn't finished, or one was refused
abbrev pub Stops : LayoutWriterContext → (ℕ → ChunkData → ChunkData) → Ty → List ℕ → ℕ → At → Option (List ChunkData) → WriteError → Type 0
Stops ctx image t schedule place x to_come e = ((e ≡ OutOfMemory) × (to_come ≡ x.to_come) × (is_finished x.machine ≡ false))
    ⊎ ((0 < ready_at x.machine) × StepFails ctx image (tracker_by ctx x.machine) (machine_ids x.machine) (picked_at schedule place x.machine) t x.to_come to_come x.outlet x.machine e)

pub record RunStopped (ctx : LayoutWriterContext) (image : ℕ → ChunkData → ChunkData) (t : Ty) (schedule : List ℕ) (x : At) (trace : List Step) (to_come : Option (List ChunkData)) (outlet : Outlet) (e : WriteError) : Type 0 where
  pub end : At
  pub ran : Ran ctx image t schedule 0 x trace end
  pub kept : Kept end.outlet outlet
  pub stops : Stops ctx image t schedule (length trace) end to_come e

-- of a batch of another type alone
abbrev pub OfMisfit : WriteError → Type 0 → Type 0
OfMisfit (BatchType c) P = P
OfMisfit e P = Unit {0}

-- the same, where these calls of the source must fail
pub record RunTold (ctx : LayoutWriterContext) (image : ℕ → ChunkData → ChunkData) (t : Ty) (schedule : List ℕ) (x : At) (trace : List Step) (to_come : Option (List ChunkData)) (outlet : Outlet) (must : ℕ → Type 0) (e : WriteError) : Type 0 where
  pub stop : RunStopped ctx image t schedule x trace to_come outlet e
  -- where the step that was refused is a read, which gave a batch of another type: this call wasn't one of them
  pub passed : OfMisfit e (reads_at stop.end.machine.phase (picked_at schedule (length trace) stop.end.machine) ≡ true → ¬ must (reads_in trace))
