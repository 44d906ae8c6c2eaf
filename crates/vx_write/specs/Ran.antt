-- A run of the machine in code, as the machine in plain data has it.
use Rattle.std.specs.Prelude.{◌≡◌, ◌+◌, ◌^◌, ◌≤◌, ◌⊎◌, ℕ, true, List, [], length, Option}
use Rattle.vx_model.specs.Ty.{Ty}
use Rattle.vx_model.specs.ChunkData.{ChunkData}
use Rattle.vx_fault.specs.Told.{before_told, then_told, NoneTold}
use Rattle.vx_tasks.specs.Run.{Note}
use Rattle.vx_strategy_spec.specs.StrategyData.{StrategyData}
use Rattle.vx_plan.specs.PlanData.{stored}
use Rattle.vx_order.specs.Outlet.{Outlet, own, shared, borrow_of}
use Rattle.vx_sink.specs.declared.context.LayoutWriterContext.{LayoutWriterContext}
use Rattle.vx_sink.specs.ContextView.{is_marked, counted}
use Rattle.vx_write_answer.specs.declared.step.Step.{Step}
use Rattle.vx_machine_steps.specs.Runs.{picks_after}
use Rattle.vx_machine_promises.specs.Write.{Write}
use Rattle.vx_machine_view.specs.Machine.{start}
use Rattle.vx_machine_view.specs.Steps.{AllPairs}
use Rattle.vx_machine_view.specs.Whole.{form_of}
use Rattle.vx_machine_runs.specs.Runs.{Stand, outset, Led, PickedBy}
use Rattle.vx_machine_runs.specs.Answers.{ToldWhole}
use Rattle.vx_machine_runs.specs.Numbers.{CountsBelow}
use Rattle.vx_machine.specs.Context.{setting_of}
use Rattle.vx_machine.specs.Progress.{ShowsNote}
use Rattle.vx_machine.specs.Run.{At, at, Ran}

-- the write of a context, with these images, by a strategy at a type; its schedule isn't asked
abbrev pub write_by : LayoutWriterContext → (ℕ → ChunkData → ChunkData) → StrategyData → Ty → Write
write_by ctx image w t = record { setting = setting_of ctx image; way = w; type = t; mark = is_marked ctx; tracker = counted ctx; schedule = [] }

-- a sink that nobody else uses, of which this holds: of its next number, and of the segments that it tells
abbrev pub OwnSink : Outlet → (ℕ → Option (List (List ℕ)) → Type 0) → Type 0
OwnSink (own s) P = P s.next s.segments
OwnSink (shared s) P = ⊥

abbrev pub own_sink : ℕ → ℕ → Option (List (List ℕ)) → Outlet
own_sink borrow next segments = own (record { next = next; segments = segments; borrow = borrow })

-- before the first step
abbrev pub at_start : Write → Option (List ChunkData) → ℕ → ℕ → Option (List (List ℕ)) → At
at_start g to_come borrow first before = at (start (form_of g) g.mark) to_come (own_sink borrow first before)

-- The code's machine stands where the plain one does: what it took is what the source told, and what it appended stands in the sink.
pub record SameStand (to_come : Option (List ChunkData)) (borrow first : ℕ) (before : Option (List (List ℕ))) (x : At) (s : Stand) : Type 0 where
  pub machine_is : x.machine ≡ s.machine
  pub came : to_come ≡ before_told s.taken x.to_come
  pub ended : s.heard ≡ true → NoneTold x.to_come
  pub sink : OwnSink x.outlet (λ next now. (next ≡ first + length s.history) × (now ≡ then_told before (stored s.history)))
  -- no segment has a number past the last
  pub numbered : (length s.history ≡ 0) ⊎ (first + length s.history ≤ 2 ^ 32)
  pub borrowed : borrow_of x.outlet ≡ borrow

-- Steps of the plain machine that lead on from a stand to where the code's has come, by the schedule from this place on. The code's
-- steps show their notes. All that they count fits 64 bits, and each batch that was told is a whole chunk of the type.
pub record Onward (g : Write) (to_come : Option (List ChunkData)) (borrow first : ℕ) (before : Option (List (List ℕ))) (schedule : List ℕ) (place : ℕ) (s : Stand) (steps : List Step) (y : At) : Type 0 where
  pub notes : List Note
  pub stand : Stand
  pub led : Led g first s notes stand
  pub shown : AllPairs ShowsNote steps notes
  pub picked : PickedBy (picks_after place schedule) notes
  pub counts : CountsBelow (2 ^ 64) g first s notes stand led
  pub whole : ToldWhole g first s notes stand led
  pub same : SameStand to_come borrow first before y stand

-- so it is of each run from the start, over a sink that nobody else uses
abbrev pub RunsAreLed : Type 0
RunsAreLed = (ctx : LayoutWriterContext) (image : ℕ → ChunkData → ChunkData) (w : StrategyData) (t : Ty) (schedule : List ℕ) (to_come : Option (List ChunkData)) (borrow first : ℕ)
    (before : Option (List (List ℕ))) (steps : List Step) (y : At) → Ran ctx image t schedule 0 (at_start (write_by ctx image w t) to_come borrow first before) steps y
    → Onward (write_by ctx image w t) to_come borrow first before schedule 0 (outset (write_by ctx image w t)) steps y
