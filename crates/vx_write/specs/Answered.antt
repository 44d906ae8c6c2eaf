-- What a write by the machine answers, from before its start.
use Rattle.std.specs.Prelude.{◌≡◌, ◌⊎◌, ℕ, Bool, true, List, [], length, Option, Some, Result, Err, MatchOption, MatchResult}
use Rattle.vx_model.specs.Ty.{Ty}
use Rattle.vx_model.specs.ChunkData.{ChunkData}
use Rattle.vx_fault.specs.Told.{NoneTold}
use Rattle.vx_path.specs.Path.{root_eof}
use Rattle.vx_layout_tree.specs.declared.layout.Layout.{Layout}
use Rattle.vx_layout_tree.specs.LayoutView.{layout_data}
use Rattle.vx_strategy_spec.specs.StrategyData.{StrategyData}
use Rattle.vx_plan.specs.PlanData.{Setting}
use Rattle.vx_plan.specs.Valid.{Valid, Keeps}
use Rattle.vx_order.specs.Outlet.{Outlet}
use Rattle.vx_sink.specs.declared.context.LayoutWriterContext.{LayoutWriterContext}
use Rattle.vx_sink.specs.ContextView.{allowed_in, is_marked, counted}
use Rattle.vx_write_answer.specs.declared.step.Step.{Step}
use Rattle.vx_write_answer.specs.declared.error.WriteError.{WriteError}
use Rattle.vx_write_answer.specs.declared.error.WriteError.TheVariants.{SourceFault, SinkFault, CompressFault, BatchType, OutOfMemory}
use Rattle.vx_machine_state.specs.Start.{first_indices}
use Rattle.vx_machine_view.specs.Machine.{start}
use Rattle.vx_machine.specs.Context.{Allowed, setting_of}
use Rattle.vx_machine.specs.Outcome.{AllFit, Kept}
use Rattle.vx_machine.specs.TaskStarting.{IsAllowed, FormRefused}
use Rattle.vx_machine.specs.Calls.{reads_at}
use Rattle.vx_machine.specs.Run.{At, at, RunDone, RunStopped, picked_at}
use Rattle.vx_machine.specs.TaskView.{form_at}
use Rattle.vx_write.specs.Ran.{OwnSink, own_sink}
use Rattle.vx_write.specs.Traced.{Traced}
use Rattle.vx_write.specs.Written.{Planned, Wrote, Halted}
use Rattle.vx_write.specs.Runs.{IsLeft}

-- the machine of a strategy at a type, with this mark, before the first step
abbrev pub begun : StrategyData → Ty → Bool → Option (List ChunkData) → Outlet → At
begun w t m to_come outlet = at (start (form_at w t) m) to_come outlet

-- a machine was started
pub record IsStarted (a : Allowed) (w : StrategyData) (t : Ty) (m : Bool) : Type 0 where
  pub allowed : IsAllowed a (form_at w t) m
  pub counted : AllFit (first_indices (form_at w t) m root_eof)

-- none was, for want of memory or since its start is refused; the source wasn't asked, nothing was appended, and there is no step
pub record Unstarted (a : Allowed) (w : StrategyData) (t : Ty) (m : Bool) (to_come to_come_now : Option (List ChunkData)) (before after : Outlet) (steps : List Step) (e : WriteError) : Type 0 where
  pub cause : (e ≡ OutOfMemory) ⊎ FormRefused a (form_at w t) m root_eof e
  pub told : to_come_now ≡ to_come
  pub kept : Kept before after
  pub none : steps ≡ []

-- One was started and ran, if the start wasn't refused.

abbrev pub HasRun : LayoutWriterContext → (ℕ → ChunkData → ChunkData) → StrategyData → Ty → List ℕ → Option (List ChunkData) → Outlet → List Step → Option (List ChunkData) → Outlet → Option Layout → Type 0
HasRun ctx image w t schedule to_come before steps to_come_now after l = IsStarted (allowed_in ctx) w t (is_marked ctx) × RunDone ctx image t schedule (begun w t (is_marked ctx) to_come before) steps to_come_now after l

abbrev pub HasStopped : LayoutWriterContext → (ℕ → ChunkData → ChunkData) → StrategyData → Ty → List ℕ → Option (List ChunkData) → Outlet → List Step → Option (List ChunkData) → Outlet → WriteError → Type 0
HasStopped ctx image w t schedule to_come before steps to_come_now after e =
    Unstarted (allowed_in ctx) w t (is_marked ctx) to_come to_come_now before after steps e
    ⊎ (IsStarted (allowed_in ctx) w t (is_marked ctx) × RunStopped ctx image t schedule (begun w t (is_marked ctx) to_come before) steps to_come_now after e)

abbrev pub Answered : LayoutWriterContext → (ℕ → ChunkData → ChunkData) → StrategyData → Ty → List ℕ → Option (List ChunkData) → Outlet → List Step → Option (List ChunkData) → Outlet → Result (Option Layout) WriteError → Type 0
Answered ctx image w t schedule to_come before steps to_come_now after r =
    MatchResult r (HasRun ctx image w t schedule to_come before steps to_come_now after) (HasStopped ctx image w t schedule to_come before steps to_come_now after)

-- ---- against the plan

-- the source has ended, and there is a layout, by which all was written, in these steps
abbrev pub WroteAll : Setting → StrategyData → Ty → Bool → ℕ → ℕ → Option (List ChunkData) → Option (List ChunkData) → Option (List (List ℕ)) → Option (List (List ℕ)) → List ℕ → List Step → Option Layout → Type 0
WroteAll s w t m first next to_come to_come_now before now schedule steps l =
    NoneTold to_come_now × MatchOption l ⊥ (λ layout. Planned s w t m to_come (Wrote t first next before now (layout_data layout))) × Traced s w t m to_come schedule steps

-- A write has written the plan, or a front of it.
abbrev pub AnswersAreWritten : Type 0
AnswersAreWritten = (ctx : LayoutWriterContext) (image : ℕ → ChunkData → ChunkData) (w : StrategyData) (t : Ty) (schedule : List ℕ) (to_come to_come_now : Option (List ChunkData)) (borrow first : ℕ)
    (before : Option (List (List ℕ))) (steps : List Step) (after : Outlet) (r : Result (Option Layout) WriteError) → Keeps (setting_of ctx image)
    → Answered ctx image w t schedule to_come (own_sink borrow first before) steps to_come_now after r
    → OwnSink after (λ next now. MatchResult r (WroteAll (setting_of ctx image) w t (is_marked ctx) first next to_come to_come_now before now schedule steps)
    (Halted (setting_of ctx image) w t (is_marked ctx) (counted ctx) first next to_come to_come_now before now schedule steps))

-- what is left of the sink
abbrev pub AnswersLeaveSinks : Type 0
AnswersLeaveSinks = (ctx : LayoutWriterContext) (image : ℕ → ChunkData → ChunkData) (w : StrategyData) (t : Ty) (schedule : List ℕ) (to_come to_come_now : Option (List ChunkData)) (borrow first : ℕ)
    (before : Option (List (List ℕ))) (steps : List Step) (after : Outlet) (r : Result (Option Layout) WriteError) → Keeps (setting_of ctx image)
    → Answered ctx image w t schedule to_come (own_sink borrow first before) steps to_come_now after r → IsLeft borrow first steps after

-- what comes from outside
abbrev pub IsOutside : WriteError → Type 0
IsOutside e = (e ≡ OutOfMemory) ⊎ (e ≡ SourceFault) ⊎ (e ≡ SinkFault) ⊎ (e ≡ CompressFault)

-- where the source tells a valid input, nothing else is refused
abbrev pub AnswersAreComplete : Type 0
AnswersAreComplete = (ctx : LayoutWriterContext) (image : ℕ → ChunkData → ChunkData) (w : StrategyData) (t : Ty) (schedule : List ℕ) (to_come to_come_now : Option (List ChunkData)) (borrow first : ℕ)
    (before : Option (List (List ℕ))) (steps : List Step) (after : Outlet) (e : WriteError) → Keeps (setting_of ctx image)
    → Answered ctx image w t schedule to_come (own_sink borrow first before) steps to_come_now after (Err e)
    → (xs : List ChunkData) → to_come ≡ Some xs → Valid (setting_of ctx image) w t (is_marked ctx) first (counted ctx) xs → IsOutside e

-- and a batch of another type is found where the source reads
abbrev pub MisfitsAreRead : Type 0
MisfitsAreRead = (ctx : LayoutWriterContext) (image : ℕ → ChunkData → ChunkData) (w : StrategyData) (t : Ty) (schedule : List ℕ) (to_come to_come_now : Option (List ChunkData)) (borrow first : ℕ)
    (before : Option (List (List ℕ))) (steps : List Step) (after : Outlet) (c : ChunkData) → Keeps (setting_of ctx image) → IsStarted (allowed_in ctx) w t (is_marked ctx)
    → (r : RunStopped ctx image t schedule (begun w t (is_marked ctx) to_come (own_sink borrow first before)) steps to_come_now after (BatchType c))
    → reads_at r.end.machine.phase (picked_at schedule (length steps) r.end.machine) ≡ true
