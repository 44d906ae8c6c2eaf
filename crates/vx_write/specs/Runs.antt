-- What a run of the machine in code has written, of a strategy whose start refuses nothing, over a sink that nobody else uses.
use Rattle.std.specs.Prelude.{◌≡◌, ℕ, ◌+◌, ◌^◌, ◌≤◌, max, Bool, true, List, length, Option, Some, None}
use Rattle.vx_model.specs.Ty.{Ty}
use Rattle.vx_model.specs.ChunkData.{ChunkData}
use Rattle.vx_fault.specs.Told.{NoneTold}
use Rattle.vx_path.specs.Path.{root_eof}
use Rattle.vx_layout_tree.specs.declared.layout.Layout.{Layout}
use Rattle.vx_layout_tree.specs.LayoutView.{layout_data}
use Rattle.vx_strategy_spec.specs.StrategyData.{StrategyData}
use Rattle.vx_cut_laws.specs.Cut.{cut}
use Rattle.vx_plan.specs.SourcePlan.{start_fault, of_schema, taken_plan}
use Rattle.vx_plan.specs.Valid.{OfSchema, Keeps}
use Rattle.vx_order.specs.Outlet.{Outlet, borrow_of}
use Rattle.vx_sink.specs.declared.context.LayoutWriterContext.{LayoutWriterContext}
use Rattle.vx_sink.specs.ContextView.{is_marked}
use Rattle.vx_write_answer.specs.declared.step.Step.{Step}
use Rattle.vx_write_answer.specs.declared.error.WriteError.{WriteError}
use Rattle.vx_machine_promises.specs.Write.{Write, Future, Open, scripts, planned}
use Rattle.vx_machine_state.specs.Images.{Careful}
use Rattle.vx_machine_state.specs.Start.{first_indices}
use Rattle.vx_machine_view.specs.Whole.{form_of}
use Rattle.vx_machine_runs.specs.Numbers.{AllBelow}
use Rattle.vx_machine.specs.Calls.{appends_in}
use Rattle.vx_machine.specs.Context.{setting_of}
use Rattle.vx_machine.specs.Run.{At, Ran, RunDone, RunStopped}
use Rattle.vx_write.specs.Ran.{write_by, OwnSink, at_start}
use Rattle.vx_write.specs.Traced.{tasks_of, Traced, StepsBegin, StepsAreFirst}
use Rattle.vx_write.specs.Tracking.{Passes}
use Rattle.vx_write.specs.RefusedAct.{RefusedThere}
use Rattle.vx_write.specs.Written.{Planned, Wrote, Stands, AreFirst, HasCause, AskedInSteps}

-- ---- done

-- the layout by which all was written, of the whole trace
abbrev pub AllDone : Write → Option (List ChunkData) → List ℕ → ℕ → Option (List (List ℕ)) → List Step → Outlet → Layout → Type 0
AllDone g to_come schedule first before steps outlet layout =
    OwnSink outlet (λ next now. Planned g.setting g.way g.type g.mark to_come (Wrote g.type first next before now (layout_data layout)))
    × Traced g.setting g.way g.type g.mark to_come schedule steps

-- a run that is done gives a layout, and the source has ended
abbrev pub DoneIsWritten : Type 0
DoneIsWritten = (ctx : LayoutWriterContext) (image : ℕ → ChunkData → ChunkData) (w : StrategyData) (t : Ty) (schedule : List ℕ) (to_come to_come_now : Option (List ChunkData)) (borrow first : ℕ)
    (before : Option (List (List ℕ))) (steps : List Step) (outlet : Outlet) (l : Option Layout) → Keeps (setting_of ctx image)
    → start_fault (setting_of ctx image) w t (is_marked ctx) ≡ None → AllBelow (2 ^ 64) (first_indices (form_of (write_by ctx image w t)) (is_marked ctx) root_eof)
    → RunDone ctx image t schedule (at_start (write_by ctx image w t) to_come borrow first before) steps to_come_now outlet l
    → (layout : Layout) × (l ≡ Some layout) × NoneTold to_come_now × AllDone (write_by ctx image w t) to_come schedule first before steps outlet layout

-- ---- stopped

-- What stands of a write, and why no more was written: its cause is one of the plan of all that comes, whatever that may be.
pub record Halts (g : Write) (first next : ℕ) (to_come_before to_come_now : Option (List ChunkData)) (before now : Option (List (List ℕ))) (schedule : List ℕ) (steps : List Step) (e : WriteError) : Type 0 where
  pub heard : Bool
  pub stand : Stands (λ taken. taken_plan g.setting g.way g.type g.mark taken heard) first next to_come_before to_come_now before now
  pub front : (f : Future) → Open heard f → AreFirst stand.appended (planned g (of_schema g.type stand.taken) f)
  pub typed : heard ≡ true → OfSchema g.type stand.taken
  pub ended : heard ≡ true → NoneTold to_come_now
  pub cause : (f : Future) → Open heard f → HasCause g.type (Passes g (of_schema g.type stand.taken) f steps) (planned g (of_schema g.type stand.taken) f) stand.taken next (length stand.appended) e
  pub begun : (f : Future) → Open heard f → StepsBegin (cut (scripts g (of_schema g.type stand.taken) f)) schedule steps
  pub traced : StepsAreFirst (tasks_of g.setting g.way g.type g.mark (of_schema g.type stand.taken) heard) schedule steps e
  pub asked : AskedInSteps stand.taken heard steps e
  pub refused : RefusedThere g.setting g.way g.type g.mark g.tracker (of_schema g.type stand.taken) heard next schedule steps e

abbrev pub StoppedHalts : Type 0
StoppedHalts = (ctx : LayoutWriterContext) (image : ℕ → ChunkData → ChunkData) (w : StrategyData) (t : Ty) (schedule : List ℕ) (to_come to_come_now : Option (List ChunkData)) (borrow first : ℕ)
    (before : Option (List (List ℕ))) (steps : List Step) (outlet : Outlet) (e : WriteError) → Careful (setting_of ctx image)
    → start_fault (setting_of ctx image) w t (is_marked ctx) ≡ None → AllBelow (2 ^ 64) (first_indices (form_of (write_by ctx image w t)) (is_marked ctx) root_eof)
    → RunStopped ctx image t schedule (at_start (write_by ctx image w t) to_come borrow first before) steps to_come_now outlet e
    → OwnSink outlet (λ next now. Halts (write_by ctx image w t) first next to_come to_come_now before now schedule steps e)

-- ---- either

-- What is left of the sink: no segment has a number past the last, there is one an append, and the sink is the one that was borrowed.
abbrev pub IsLeft : ℕ → ℕ → List Step → Outlet → Type 0
IsLeft borrow first steps outlet = OwnSink outlet (λ next now. (next ≤ max first (2 ^ 32)) × (next ≡ first + appends_in steps)) × (borrow_of outlet ≡ borrow)

abbrev pub RunsLeaveSinks : Type 0
RunsLeaveSinks = (ctx : LayoutWriterContext) (image : ℕ → ChunkData → ChunkData) (w : StrategyData) (t : Ty) (schedule : List ℕ) (to_come : Option (List ChunkData)) (borrow first : ℕ)
    (before : Option (List (List ℕ))) (steps : List Step) (y : At) → Careful (setting_of ctx image)
    → start_fault (setting_of ctx image) w t (is_marked ctx) ≡ None → Ran ctx image t schedule 0 (at_start (write_by ctx image w t) to_come borrow first before) steps y → IsLeft borrow first steps y.outlet
