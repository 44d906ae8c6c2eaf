-- What a write's answer tells of its calls.
use Rattle.std.specs.Prelude.{◌≡◌, ℕ, ◌⊎◌, List, Option, Result, Ok, Err, MatchResult}
use Rattle.vx_model.specs.Ty.{Ty}
use Rattle.vx_model.specs.ChunkData.{ChunkData}
use Rattle.vx_strategy_spec.specs.StrategyData.{StrategyData}
use Rattle.vx_layout_tree.specs.declared.layout.Layout.{Layout}
use Rattle.vx_order.specs.Outlet.{Outlet}
use Rattle.vx_sink.specs.declared.context.LayoutWriterContext.{LayoutWriterContext}
use Rattle.vx_sink.specs.ContextView.{listed, allowed_in, is_marked, counted}
use Rattle.vx_write_answer.specs.declared.error.WriteError.{WriteError}
use Rattle.vx_machine.specs.Run.{RunTold}
use Rattle.vx_write.specs.Answered.{IsStarted, Unstarted, begun, HasRun}
use Rattle.vx_write_answer.specs.declared.step.Step.{Step}
use Rattle.vx_machine.specs.Calls.{asked_by}
use Rattle.vx_write.specs.declared.write.Written.{Written}
use Rattle.vx_write.specs.declared.write.Refused.{Refused}

-- its steps
abbrev pub steps_of : Result Written Refused → List Step
steps_of (Ok w) = w.trace.items
steps_of (Err r) = r.trace.items

-- how often the source answered before its end
abbrev pub asked : Result Written Refused → ℕ
asked (Ok w) = asked_by {A = Layout} (Ok w.layout) w.trace.items
asked (Err r) = asked_by {A = Layout} (Err r.error) r.trace.items

-- How a write by tasks ended, of which these calls of the source must fail.

abbrev pub StoppedTold : LayoutWriterContext → (ℕ → ChunkData → ChunkData) → StrategyData → Ty → List ℕ → Option (List ChunkData) → Outlet → List Step → Option (List ChunkData) → Outlet → (ℕ → Type 0) → WriteError → Type 0
StoppedTold ctx image w t schedule to_come before steps to_come_now after must e =
    Unstarted (allowed_in ctx) w t (is_marked ctx) to_come to_come_now before after steps e
    ⊎ (IsStarted (allowed_in ctx) w t (is_marked ctx) × RunTold ctx image t schedule (begun w t (is_marked ctx) to_come before) steps to_come_now after must e)

abbrev pub AnsweredTold : LayoutWriterContext → (ℕ → ChunkData → ChunkData) → StrategyData → Ty → List ℕ → Option (List ChunkData) → Outlet → List Step → Option (List ChunkData) → Outlet → (ℕ → Type 0) → Result (Option Layout) WriteError → Type 0
AnsweredTold ctx image w t schedule to_come before steps to_come_now after must r =
    MatchResult r (HasRun ctx image w t schedule to_come before steps to_come_now after) (StoppedTold ctx image w t schedule to_come before steps to_come_now after must)

-- a context that tells the same: what it lists and allows, its mark, and what its tracker counts
pub record SameContext (before after : LayoutWriterContext) : Type 0 where
  pub listed_is : listed after ≡ listed before
  pub allowed_is : allowed_in after ≡ allowed_in before
  pub marked_is : is_marked after ≡ is_marked before
  pub counted_is : counted after ≡ counted before
